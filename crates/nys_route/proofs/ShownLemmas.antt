-- Ways that numbers show at their places, and as a view.
use Rattle.std.proofs.Common.{◌≡◌, ℕ, suc, ◌+◌, ◌-◌, ◌<◌, ◌==◌, true, List, [], ◌∷◌, ◌++◌, length, map, get_or, refl, sym, ap, ◌∙◌, subst, inl, inr, arith, eq-eqb}
use Rattle.std.specs.Prelude.{ℤ, pos, slice_index_or}
use Rattle.std.specs.List.{list_all}
use Rattle.std.proofs.lemmas.Bool.{and_from, and_parts, cases_lt, eqb-true}
use Rattle.std.proofs.lemmas.List.{get_or_append_left, get_or-append_right, get_or_default, get_or-map, get_or_push, length-map, length_push, same_lists}
use Rattle.nys_route.specs.RouteLaws.{view_long, way_at}
use Rattle.nys_route.specs.Routes.{are_ways, hop_number, is_way, no_way, way_to, ways_view}
use Rattle.nys_route.specs.Shown.{ShowAll, Shows}
use Rattle.nys_route.specs.declared.way.Way.{Way}

-- one way more
pub show_more : (n d : ℕ) (numbers : List ℤ) (ways : List Way) (way : Way) → ShowAll n d numbers ways
    → Shows way (slice_index_or numbers d (pos 0)) (slice_index_or numbers (n + d) (pos 0)) → ShowAll n (d + 1) numbers (ways ++ way ∷ [])
show_more n d numbers ways way all one = record {
  long = let long = all.long in let more = length_push ways way in omega (arith, long, more);
  each = λ e less. let long = all.long in elim (cases_lt e d) [
    | inl below ↦
        subst (λ w. Shows w (slice_index_or numbers e (pos 0)) (slice_index_or numbers (n + e) (pos 0)))
        (sym (get_or_append_left ways (way ∷ []) no_way e (omega (arith, below, long)))) (all.each e below)
    | inr last ↦
        let same : d ≡ e = omega (arith, last, less) in
        subst (λ k. Shows (way_to (ways ++ way ∷ []) k) (slice_index_or numbers k (pos 0)) (slice_index_or numbers (n + k) (pos 0))) same
        (subst (λ w. Shows w (slice_index_or numbers d (pos 0)) (slice_index_or numbers (n + d) (pos 0))) (sym (get_or_push ways way no_way d long)) one)
  ];
}

-- what a view has in its first half, and in its second
distance_at : (ways : List Way) (d : ℕ) (z : ℤ) → d < length ways → get_or (ways_view ways) d z ≡ pos (way_to ways d).distance
distance_at ways d z less =
    let ds : List ℤ = map (λ (way : Way). pos way.distance) ways in
    let long = length-map ways (λ (way : Way). pos way.distance) in
    get_or_append_left ds (map (λ (way : Way). hop_number way.hop) ways) z d (omega (arith, long, less))
    ∙ get_or-map (λ (way : Way). pos way.distance) ways d no_way z less

hop_at : (ways : List Way) (d : ℕ) (z : ℤ) → d < length ways → get_or (ways_view ways) (length ways + d) z ≡ hop_number (way_to ways d).hop
hop_at ways d z less =
    let ds : List ℤ = map (λ (way : Way). pos way.distance) ways in
    let hs : List ℤ = map (λ (way : Way). hop_number way.hop) ways in
    let same : length ways + d - length ways ≡ d = omega arith in
    get_or-append_right ds hs (length ways) (length ways + d) z (length-map ways (λ (way : Way). pos way.distance)) (omega arith)
    ∙ ap (λ k. get_or hs k z) same
    ∙ get_or-map (λ (way : Way). hop_number way.hop) ways d no_way z less

-- ways that each pass are all ways
all_from : (ways : List Way) → ((d : ℕ) → d < length ways → is_way (way_to ways d) ≡ true) → list_all is_way ways ≡ true
all_from [] each = refl
all_from (w ∷ ways) each =
    and_from (is_way w) (list_all is_way ways) (each 0 (omega arith)) (all_from ways (λ d less. each (suc d) (omega (arith, less))))

-- ways that the numbers show at their places are a state
pub show_state : (n : ℕ) (numbers : List ℤ) (ways : List Way) → ShowAll n n numbers ways → are_ways n ways ≡ true
unfolding are_ways
show_state n numbers ways all =
    let long = all.long in
    and_from (length ways == n) (list_all is_way ways) (eq-eqb (length ways) n long)
    (all_from ways (λ d less. (all.each d (omega (arith, less, long))).ranges))

-- which the numbers show
pub show_view : (n : ℕ) (numbers : List ℤ) (ways : List Way) → length numbers ≡ n + n → ShowAll n n numbers ways → ways_view ways ≡ numbers
show_view n numbers ways twice all =
    let long = all.long in
    let view = view_long ways in
    same_lists (ways_view ways) numbers (omega (arith, long, view, twice)) (λ k z less. elim (cases_lt k n) [
      | inl low ↦
          distance_at ways k z (omega (arith, low, long)) ∙ (all.each k low).distance_is ∙ get_or_default numbers k (pos 0) z (omega (arith, low, twice))
      | inr high ↦
          let same : k ≡ n + (k - n) = omega (arith, high) in
          let own : n + (k - n) ≡ length ways + (k - n) = omega (arith, long) in
          let small : k - n < n = omega (arith, less, view, long, high) in
          ap (λ m. get_or (ways_view ways) m z) (same ∙ own)
          ∙ hop_at ways (k - n) z (omega (arith, small, long))
          ∙ (all.each (k - n) small).hop_is
          ∙ get_or_default numbers (n + (k - n)) (pos 0) z (omega (arith, small, twice))
          ∙ ap (λ m. get_or numbers m z) (sym same)
    ])

-- a state has two numbers for each host
pub long_view : (n : ℕ) (ways : List Way) → are_ways n ways ≡ true → length (ways_view ways) ≡ n + n
unfolding are_ways
long_view n ways known =
    let long = eqb-true (length ways) n (and_parts (length ways == n) (list_all is_way ways) known).0 in
    let view = view_long ways in
    omega (arith, long, view)

-- a state that the numbers show is that of their places
pub show_only : (n : ℕ) (numbers : List ℤ) (ways : List Way) → are_ways n ways ≡ true → ways_view ways ≡ numbers → ShowAll n n numbers ways
unfolding are_ways
show_only n numbers ways known view =
    let parts = and_parts (length ways == n) (list_all is_way ways) known in
    let long : length ways ≡ n = eqb-true (length ways) n parts.0 in
    record {
      long = long;
      each = λ d less. record {
        ranges = way_at ways d parts.1;
        distance_is = sym (distance_at ways d (pos 0) (omega (arith, less, long))) ∙ ap (λ xs. get_or xs d (pos 0)) view;
        hop_is = sym (hop_at ways d (pos 0) (omega (arith, less, long)))
            ∙ ap (λ xs. get_or xs (length ways + d) (pos 0)) view ∙ ap (λ m. get_or numbers (m + d) (pos 0)) long;
      };
    }
