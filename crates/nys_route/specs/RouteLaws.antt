-- Why routes are a protocol: the ways are shown whole, steps keep them in their ranges, and effects are allowed.
use Rattle.std.specs.Prelude.{◌≡◌, ℕ, zero, suc, ◌+◌, ◌<◌, ◌≤◌, ◌==◌, nat_lt, nat_le, Bool, true, false, ℤ, pos, negsuc, List, [], ◌∷◌, ◌++◌, length, map, replicate, slice_set, Option, Some, None, refl}
use Rattle.std.specs.List.{list_all}
use Rattle.std.proofs.Common.{arith, ap, sym, ◌∙◌, eq-eqb, length-append}
use Rattle.std.proofs.lemmas.Bool.{and_from, and_parts, cond_both, eqb-true, ltb-true, lt-ltb, le-leb}
use Rattle.std.proofs.lemmas.List.{length-map, length-replicate, length-set}
use Rattle.std.proofs.lemmas.List.Elements.{All-nil}
use Rattle.nys_hosts.specs.declared.limits.TheConstants.{MAX_HOSTS}
use Rattle.nys_source.specs.Rules.{IsEffectOf, AreEffectsOf}
use Rattle.nys_source.specs.declared.effect.Effect.{Effect}
use Rattle.nys_route.specs.Sends.{is_not, is_other, sends_where}
use Rattle.nys_route.specs.SendLaws.{sends_few, sends_allowed}
use Rattle.nys_route.specs.Routes.{are_ways, begun, below, both, heard_from, heard_of, hop_number, is_hop, is_way, news, news_of, no_way, route_by, route_next, route_rules, way_to, ways_view, with_distance}
use Rattle.nys_route.specs.declared.way.Way.{Way}
use Rattle.nys_route.specs.declared.way.TheConstants.{MAX_HEARD, UNKNOWN}

-- ---- states

-- as many unknown ways are ways
all_unknown : (n : ℕ) → list_all is_way (replicate n no_way) ≡ true
all_unknown zero = refl
all_unknown (suc n) = and_from (is_way no_way) (list_all is_way (replicate n no_way)) refl (all_unknown n)

-- a host begins in a state
pub route_start : (hosts : ℕ) → are_ways hosts (replicate hosts no_way) ≡ true
unfolding are_ways
route_start hosts =
    and_from (length (replicate hosts no_way) == hosts) (list_all is_way (replicate hosts no_way))
    (eq-eqb (length (replicate hosts no_way)) hosts (length-replicate hosts no_way)) (all_unknown hosts)

-- ways with another one among them are ways
all_set : (ways : List Way) (d : ℕ) (way : Way) → is_way way ≡ true → list_all is_way ways ≡ true → list_all is_way (slice_set ways d way) ≡ true
all_set [] d way one all = refl
all_set (w ∷ ways) zero way one all = and_from (is_way way) (list_all is_way ways) one (and_parts (is_way w) (list_all is_way ways) all).1
all_set (w ∷ ways) (suc d) way one all =
    let parts = and_parts (is_way w) (list_all is_way ways) all in
    and_from (is_way w) (list_all is_way (slice_set ways d way)) parts.0 (all_set ways d way one parts.1)

-- what is known of a destination is a way
pub way_at : (ways : List Way) (d : ℕ) → list_all is_way ways ≡ true → is_way (way_to ways d) ≡ true
way_at [] d all = refl
way_at (w ∷ ways) zero all = (and_parts (is_way w) (list_all is_way ways) all).0
way_at (w ∷ ways) (suc d) all = way_at ways d (and_parts (is_way w) (list_all is_way ways) all).1

-- another way leaves a state
stays_with : (hosts : ℕ) (ways : List Way) (d : ℕ) (way : Way) → is_way way ≡ true → are_ways hosts ways ≡ true → are_ways hosts (slice_set ways d way) ≡ true
unfolding are_ways
stays_with hosts ways d way one known =
    let parts = and_parts (length ways == hosts) (list_all is_way ways) known in
    and_from (length (slice_set ways d way) == hosts) (list_all is_way (slice_set ways d way))
    (eq-eqb (length (slice_set ways d way)) hosts (length-set ways d way ∙ eqb-true (length ways) hosts parts.0))
    (all_set ways d way one parts.1)

-- an input leaves a state
begun_stays : (hosts : ℕ) (linked : ℕ → ℕ → Bool) (h : ℕ) (ways : List Way) → are_ways hosts ways ≡ true → are_ways hosts (begun hosts linked h ways).0 ≡ true
unfolding are_ways
begun_stays hosts linked h ways known =
    let own = way_to ways h in
    let parts = and_parts (nat_le own.distance UNKNOWN) (is_hop own.hop) (way_at ways h (and_parts (length ways == hosts) (list_all is_way ways) known).1) in
    cond_both {A = List Way × List Effect} (own.distance == UNKNOWN) (with_distance ways h 0, sends_where hosts (is_other linked h None) (news h 0)) (ways, []) (λ made. are_ways hosts made.0 ≡ true)
    (λ none. stays_with hosts ways h (record { distance = 0; hop = own.hop }) parts.1 known) (λ some. known)

-- a number below a bound
below_is : (bound : ℕ) (z : ℤ) (n : ℕ) → below bound z ≡ Some n → (n < bound) × (z ≡ pos n)
below_is bound (negsuc m) n e = cc
below_is bound (pos m) n e = go (nat_lt m bound) refl
  where
    go : (b : Bool) → nat_lt m bound ≡ b → (n < bound) × (pos m ≡ pos n)
    go true less =
        let same : Some m ≡ Some n = rw less at e in
        let is : m ≡ n = cc in
        let lower = ltb-true m bound less in
        (omega (arith, lower, is), ap pos is)
    go false more = let none : ◌≡◌ {A = Option ℕ} None (Some n) = rw more at e in cc

-- the parts of news
both_are : (d x : Option ℕ) (told : ℕ × ℕ) → both d x ≡ Some told → (d ≡ Some told.0) × (x ≡ Some told.1)
both_are None x told e = cc
both_are (Some d) None told e = cc
both_are (Some d) (Some x) told e =
    let same : (d, x) ≡ told = cc in (ap (λ t. Some t.0) same, ap (λ t. Some t.1) same)

-- news are of a host and a small distance, and are spelled so
pub record IsNews (hosts : ℕ) (payload : List ℤ) (d x : ℕ) : Type 0 where
  pub host : d < hosts
  pub small : x < MAX_HEARD
  pub spelled : payload ≡ news d x

-- what a payload tells
pub news_is : (hosts : ℕ) (payload : List ℤ) (told : ℕ × ℕ) → news_of hosts payload ≡ Some told → IsNews hosts payload told.0 told.1
news_is hosts [] told e = cc
news_is hosts (d ∷ []) told e = cc
news_is hosts (d ∷ x ∷ []) told e =
    let parts = both_are (below hosts d) (below MAX_HEARD x) told e in
    let first = below_is hosts d told.0 parts.0 in
    let second = below_is MAX_HEARD x told.1 parts.1 in
    record { host = first.0; small = second.0; spelled = ap (λ z. z ∷ x ∷ []) first.1 ∙ ap (λ z. pos told.0 ∷ z ∷ []) second.1 }
news_is hosts (d ∷ x ∷ y ∷ more) told e = cc

-- news of a way leave a state
of_stays : (hosts : ℕ) (linked : ℕ → ℕ → Bool) (h : ℕ) (ways : List Way) (p d x : ℕ) → p < MAX_HOSTS → x < MAX_HEARD → are_ways hosts ways ≡ true
    → are_ways hosts (heard_of hosts linked h ways p d x).0 ≡ true
of_stays hosts linked h ways p d x host small known =
    let way : Way = record { distance = x + 1; hop = Some p } in
    let one : is_way way ≡ true = and_from (nat_le (x + 1) UNKNOWN) (nat_lt p MAX_HOSTS) (le-leb (x + 1) UNKNOWN (omega (arith, small))) (lt-ltb p MAX_HOSTS host) in
    cond_both {A = List Way × List Effect} (nat_lt (x + 1) (way_to ways d).distance) (slice_set ways d way, sends_where hosts (is_other linked h (Some p)) (news d (x + 1))) (ways, []) (λ made. are_ways hosts made.0 ≡ true)
    (λ nearer. stays_with hosts ways d way one known) (λ farther. known)

-- so do all news
from_stays : (hosts : ℕ) (linked : ℕ → ℕ → Bool) (h : ℕ) (ways : List Way) (p : ℕ) (payload : List ℤ) (told : Option (ℕ × ℕ)) → p < MAX_HOSTS
    → news_of hosts payload ≡ told → are_ways hosts ways ≡ true → are_ways hosts (heard_from hosts linked h ways p told).0 ≡ true
from_stays hosts linked h ways p payload None host is known = known
from_stays hosts linked h ways p payload (Some told) host is known =
    of_stays hosts linked h ways p told.0 told.1 host (news_is hosts payload told is).small known

-- so does each step
by_stays : (hosts : ℕ) (linked : ℕ → ℕ → Bool) (h : ℕ) (ways : List Way) (from : Option ℕ) (payload : List ℤ) → hosts ≤ MAX_HOSTS → are_ways hosts ways ≡ true
    → are_ways hosts (route_by hosts linked h ways from payload).0 ≡ true
by_stays hosts linked h ways None payload few known = begun_stays hosts linked h ways known
by_stays hosts linked h ways (Some p) payload few known =
    cond_both {A = List Way × List Effect} (nat_lt p hosts) (heard_from hosts linked h ways p (news_of hosts payload)) (ways, []) (λ made. are_ways hosts made.0 ≡ true)
    (λ host. let less = ltb-true p hosts host in from_stays hosts linked h ways p payload (news_of hosts payload) (omega (arith, less, few)) refl known)
    (λ none. known)

-- a step from a state leaves one
pub route_stays : (hosts : ℕ) (linked : ℕ → ℕ → Bool) (h : ℕ) (ways : List Way) (from : Option ℕ) (payload : List ℤ) → hosts ≤ MAX_HOSTS
    → are_ways hosts ways ≡ true → are_ways hosts (route_next hosts linked h ways from payload).0 ≡ true
unfolding route_next
route_stays hosts linked h ways from payload few known = by_stays hosts linked h ways from payload few known

-- ---- the view

-- the fronts of equal lists are equal where they are as long
fronts : (us vs xs ys : List ℤ) → length us ≡ length vs → us ++ xs ≡ vs ++ ys → (us ≡ vs) × (xs ≡ ys)
fronts [] [] xs ys long e = (refl, e)
fronts [] (v ∷ vs) xs ys long e = absurd (omega (arith, long))
fronts (u ∷ us) [] xs ys long e = absurd (omega (arith, long))
fronts (u ∷ us) (v ∷ vs) xs ys long e =
    let heads : u ≡ v = cc in
    let tails : us ++ xs ≡ vs ++ ys = cc in
    let rest = fronts us vs xs ys (omega (arith, long)) tails in
    (ap (λ z. z ∷ us) heads ∙ ap (λ zs. v ∷ zs) rest.0, rest.1)

-- a hop is shown whole
same_hop : (a b : Option ℕ) → hop_number a ≡ hop_number b → a ≡ b
same_hop None None e = refl
same_hop None (Some q) e = cc
same_hop (Some p) None e = cc
same_hop (Some p) (Some q) e = let is : p ≡ q = cc in ap Some is

-- ways with the same distances and the same hops are the same
same_ways : (s t : List Way) → map (λ way. pos way.distance) s ≡ map (λ way. pos way.distance) t
    → map (λ way. hop_number way.hop) s ≡ map (λ way. hop_number way.hop) t → s ≡ t
same_ways [] [] ds hs = refl
same_ways [] (y ∷ t) ds hs = cc
same_ways (x ∷ s) [] ds hs = cc
same_ways (x ∷ s) (y ∷ t) ds hs =
    let first : pos x.distance ≡ pos y.distance = cc in
    let distance : x.distance ≡ y.distance = cc in
    let shown : hop_number x.hop ≡ hop_number y.hop = cc in
    let hop = same_hop x.hop y.hop shown in
    let one : x ≡ y = λ i. record { distance = distance i; hop = hop i } in
    let rest = same_ways s t (cc) (cc) in
    ap (λ w. w ∷ s) one ∙ ap (λ ws. y ∷ ws) rest

-- a view has two numbers for each way
pub view_long : (ways : List Way) → length (ways_view ways) ≡ length ways + length ways
view_long ways =
    length-append (map (λ way. pos way.distance) ways) (map (λ way. hop_number way.hop) ways)
    ∙ ap (λ n. n + length (map (λ way. hop_number way.hop) ways)) (length-map ways (λ way. pos way.distance))
    ∙ ap (λ n. length ways + n) (length-map ways (λ way. hop_number way.hop))

-- a state is shown whole
pub route_same_view : (s t : List Way) → ways_view s ≡ ways_view t → s ≡ t
route_same_view s t same =
    let ds : Way → ℤ = λ way. pos way.distance in
    let hs : Way → ℤ = λ way. hop_number way.hop in
    let twice : length s + length s ≡ length t + length t = sym (view_long s) ∙ ap length same ∙ view_long t in
    let long : length s ≡ length t = omega (arith, twice) in
    let parts = fronts (map ds s) (map ds t) (map hs s) (map hs t) (length-map s ds ∙ long ∙ sym (length-map t ds)) same in
    same_ways s t parts.0 parts.1

-- ---- effects

-- a neighbour of h that isn't the sender is a neighbour of h
other_linked : (linked : ℕ → ℕ → Bool) (h : ℕ) (from : Option ℕ) (q : ℕ) → is_other linked h from q ≡ true → linked h q ≡ true
other_linked linked h from q both = (and_parts (linked h q) (is_not from q) both).0

-- nothing, or one send to some neighbours
sends_of : (hosts : ℕ) (linked : ℕ → ℕ → Bool) (h : ℕ) (from : Option ℕ) (payload : List ℤ) → hosts ≤ MAX_HOSTS
    → AreEffectsOf (route_rules hosts linked) h (sends_where hosts (is_other linked h from) payload)
sends_of hosts linked h from payload few = record {
  few = omega (arith, sends_few hosts (is_other linked h from) payload, few);
  allowed = sends_allowed (route_rules hosts linked) h (is_other linked h from) payload (other_linked linked h from);
}

none_of : (hosts : ℕ) (linked : ℕ → ℕ → Bool) (h : ℕ) → AreEffectsOf (route_rules hosts linked) h []
none_of hosts linked h = record { few = omega arith; allowed = All-nil (IsEffectOf (route_rules hosts linked) h) }

-- of the news of a host
from_effects : (hosts : ℕ) (linked : ℕ → ℕ → Bool) (h : ℕ) (ways : List Way) (p : ℕ) (told : Option (ℕ × ℕ)) → hosts ≤ MAX_HOSTS
    → AreEffectsOf (route_rules hosts linked) h (heard_from hosts linked h ways p told).1
from_effects hosts linked h ways p None few = none_of hosts linked h
from_effects hosts linked h ways p (Some told) few =
    cond_both {A = List Way × List Effect} (nat_lt (told.1 + 1) (way_to ways told.0).distance)
    (slice_set ways told.0 (record { distance = told.1 + 1; hop = Some p }), sends_where hosts (is_other linked h (Some p)) (news told.0 (told.1 + 1)))
    (ways, []) (λ made. AreEffectsOf (route_rules hosts linked) h made.1)
    (λ nearer. sends_of hosts linked h (Some p) (news told.0 (told.1 + 1)) few) (λ farther. none_of hosts linked h)

-- of each step
by_effects : (hosts : ℕ) (linked : ℕ → ℕ → Bool) (h : ℕ) (ways : List Way) (from : Option ℕ) (payload : List ℤ) → hosts ≤ MAX_HOSTS
    → AreEffectsOf (route_rules hosts linked) h (route_by hosts linked h ways from payload).1
by_effects hosts linked h ways None payload few =
    cond_both {A = List Way × List Effect} ((way_to ways h).distance == UNKNOWN) (with_distance ways h 0, sends_where hosts (is_other linked h None) (news h 0)) (ways, [])
    (λ made. AreEffectsOf (route_rules hosts linked) h made.1)
    (λ none. sends_of hosts linked h None (news h 0) few) (λ some. none_of hosts linked h)
by_effects hosts linked h ways (Some p) payload few =
    cond_both {A = List Way × List Effect} (nat_lt p hosts) (heard_from hosts linked h ways p (news_of hosts payload)) (ways, [])
    (λ made. AreEffectsOf (route_rules hosts linked) h made.1)
    (λ host. from_effects hosts linked h ways p (news_of hosts payload) few) (λ none. none_of hosts linked h)

-- the effects of a step are allowed
pub route_effects : (hosts : ℕ) (linked : ℕ → ℕ → Bool) (h : ℕ) (ways : List Way) (from : Option ℕ) (payload : List ℤ) → hosts ≤ MAX_HOSTS
    → AreEffectsOf (route_rules hosts linked) h (route_next hosts linked h ways from payload).1
unfolding route_next
route_effects hosts linked h ways from payload few = by_effects hosts linked h ways from payload few
