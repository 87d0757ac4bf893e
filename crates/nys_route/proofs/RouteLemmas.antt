-- Known distances are lengths of walks, and in a quiet run the graph's.
use Rattle.std.proofs.Common.{◌≡◌, ℕ, ◌+◌, ◌<◌, ◌≤◌, ◌⊎◌, Bool, true, false, List, [], ◌∷◌, ◌++◌, length, Option, Some, refl, sym, ap, ◌∙◌, subst, inl, inr, arith, length-append}
use Rattle.std.specs.Prelude.{ℤ, slice_get}
use Rattle.std.proofs.lemmas.Bool.{cases_eq, cases_lt}
use Rattle.std.proofs.lemmas.Option.{slice_get_within}
use Rattle.nys_graph.specs.Links.{IsGraph}
use Rattle.nys_source.specs.Source.{Source}
use Rattle.nys_source.specs.Tables.{put_at}
use Rattle.nys_source.specs.declared.step.Step.{Step}
use Rattle.nys_route.specs.Routed.{HasBegun, IsKnown, kept_to, KnowsWays}
use Rattle.nys_route.specs.Routes.{news, way_to}
use Rattle.nys_route.specs.Sends.{is_not}
use Rattle.nys_route.specs.Walks.{HasWalk}
use Rattle.nys_route.specs.declared.way.Way.{Way}
use Rattle.nys_route.specs.declared.way.TheConstants.{UNKNOWN}
use Rattle.nys_route.proofs.EffectLemmas.{put_at_here, put_at_from, put_at_to}
use Rattle.nys_route.proofs.RunLemmas.{inputs_grow}
use Rattle.nys_route.proofs.SentLemmas.{get_end, get_last, get_more}

-- ---- what holds of every system

-- what a payload on a link tells of its sender p: it was p's distance to some d, which has had an input
pub record IsTold (hosts : ℕ) (linked : ℕ → ℕ → Bool) (run : List Step) (state : ℕ → List Way) (p : ℕ) (payload : List ℤ) : Type 0 where
  pub d : ℕ
  pub x : ℕ
  pub spelled : payload ≡ news d x
  pub host : d < hosts
  pub walk : HasWalk linked p d x
  pub near : kept_to state p d ≤ x
  pub given : HasBegun run d

-- a payload of a link tells a distance
pub record IsOnLink (sent : ℕ → ℕ → List (List ℤ)) (p h d x : ℕ) : Type 0 where
  pub k : ℕ
  pub here : slice_get (sent p h) k ≡ Some (news d x)

-- what holds of states, of what was sent and of what was received
pub record IsHeld (hosts : ℕ) (linked : ℕ → ℕ → Bool) (run : List Step) (state : ℕ → List Way) (sent : ℕ → ℕ → List (List ℤ)) (received : ℕ → ℕ → ℕ) : Type 0 where
  pub small : (h d : ℕ) → kept_to state h d ≤ UNKNOWN
  pub ways : KnowsWays linked run state
  pub tells : (p h k : ℕ) (payload : List ℤ) → slice_get (sent p h) k ≡ Some payload → IsTold hosts linked run state p payload
  -- a neighbour was sent a known distance, unless it keeps a smaller one
  pub told : (p h d : ℕ) → linked p h ≡ true → kept_to state p d < UNKNOWN
      → IsOnLink sent p h d (kept_to state p d) ⊎ (kept_to state h d < kept_to state p d)
  -- what was received is used
  pub heard : (p h k d x : ℕ) → k < received p h → slice_get (sent p h) k ≡ Some (news d x) → x < 31 → kept_to state h d ≤ x + 1
  pub few : (p h : ℕ) → received p h ≤ length (sent p h)

-- who has had an input keeps no distance to itself
abbrev pub OwnZero : List Step → (ℕ → List Way) → Type 0
OwnZero run state = (d : ℕ) → HasBegun run d → kept_to state d d ≡ 0

-- both, of a system
pub record Holds (hosts : ℕ) (linked : ℕ → ℕ → Bool) (run : List Step) (now : Source (List Way)) : Type 0 where
  pub held : IsHeld hosts linked run now.state now.sent now.received
  pub own : OwnZero run now.state
  pub long : (h : ℕ) → length (now.state h) ≡ hosts

-- ---- one step more

-- a host that had an input has had it with a step more
begun_on : (run : List Step) (step : Step) (d : ℕ) → HasBegun run d → HasBegun (run ++ step ∷ []) d
begun_on run step d given = let more = inputs_grow d run step in omega (arith, more, given)

-- what is held stays so with a step more
pub held_on : (hosts : ℕ) (linked : ℕ → ℕ → Bool) (run : List Step) (step : Step) (state : ℕ → List Way) (sent : ℕ → ℕ → List (List ℤ)) (received : ℕ → ℕ → ℕ)
    → IsHeld hosts linked run state sent received → IsHeld hosts linked (run ++ step ∷ []) state sent received
held_on hosts linked run step state sent received held = record {
  small = held.small;
  ways = λ h d less. let way = held.ways h d less in record { walk = way.walk; begun = begun_on run step d way.begun; hop = way.hop };
  tells = λ p h k payload here.
      let told = held.tells p h k payload here in
      record { d = told.d; x = told.x; spelled = told.spelled; host = told.host; walk = told.walk; near = told.near; given = begun_on run step told.d told.given };
  told = held.told;
  heard = held.heard;
  few = held.few;
}

-- ---- a nearer way

-- host h keeps a smaller distance y to d, and tells it to its neighbours but some that are nearer
pub record IsNearer (hosts : ℕ) (linked : ℕ → ℕ → Bool) (run : List Step) (h d y : ℕ) (from : Option ℕ) (state after : ℕ → List Way) (sent after_sent : ℕ → ℕ → List (List ℤ)) : Type 0 where
  pub less : y < kept_to state h d
  pub small : y < UNKNOWN
  pub host : d < hosts
  pub walk : HasWalk linked h d y
  pub given : HasBegun run d
  pub hop : (h ≡ d → ⊥) → (p : ℕ) × ((way_to (after h) d).hop ≡ Some p) × (linked h p ≡ true) × (kept_to state p d < y)
  pub nearer : (q : ℕ) → is_not from q ≡ false → kept_to state q d < y
  pub here : kept_to after h d ≡ y
  pub beside : (e : ℕ) → (e ≡ d → ⊥) → way_to (after h) e ≡ way_to (state h) e
  pub elsewhere : (g : ℕ) → (g ≡ h → ⊥) → after g ≡ state g
  pub to : (q : ℕ) → linked h q ≡ true → is_not from q ≡ true → after_sent h q ≡ sent h q ++ news d y ∷ []
  pub not_to : (q : ℕ) → (linked h q ≡ true → is_not from q ≡ true → ⊥) → after_sent h q ≡ sent h q
  pub others : (p q : ℕ) → (p ≡ h → ⊥) → after_sent p q ≡ sent p q

-- no distance grows
pub keeps_less : (hosts : ℕ) (linked : ℕ → ℕ → Bool) (run : List Step) (h d y : ℕ) (from : Option ℕ) (state after : ℕ → List Way) (sent after_sent : ℕ → ℕ → List (List ℤ))
    → IsNearer hosts linked run h d y from state after sent after_sent → (g e : ℕ) → kept_to after g e ≤ kept_to state g e
keeps_less hosts linked run h d y from state after sent after_sent new g e = elim (cases_eq g h) [
  | inl same ↦ elim (cases_eq e d) [
    | inl dest ↦
        let here = new.here in
        let less = new.less in
        subst (λ x. kept_to after x e ≤ kept_to state x e) (sym same) (subst (λ x. kept_to after h x ≤ kept_to state h x) (sym dest) (omega (arith, here, less)))
    | inr other ↦ subst (λ x. kept_to after x e ≤ kept_to state x e) (sym same) (let is = ap (λ w. w.distance) (new.beside e other) in omega (arith, is))
  ]
  | inr other ↦ let is = ap (λ s. (way_to s e).distance) (new.elsewhere g other) in omega (arith, is)
]

-- every other distance and hop stays
keeps_way : (hosts : ℕ) (linked : ℕ → ℕ → Bool) (run : List Step) (h d y : ℕ) (from : Option ℕ) (state after : ℕ → List Way) (sent after_sent : ℕ → ℕ → List (List ℤ))
    → IsNearer hosts linked run h d y from state after sent after_sent → (g e : ℕ)
    → ((g ≡ h) × (e ≡ d)) ⊎ (way_to (after g) e ≡ way_to (state g) e)
keeps_way hosts linked run h d y from state after sent after_sent new g e = elim (cases_eq g h) [
  | inl same ↦ elim (cases_eq e d) [
    | inl dest ↦ inl (same, dest)
    | inr other ↦ inr (ap (λ x. way_to (after x) e) same ∙ new.beside e other ∙ ap (λ x. way_to (state x) e) (sym same))
  ]
  | inr other ↦ inr (ap (λ s. way_to s e) (new.elsewhere g other))
]

-- what is on a link stays at its number
pub link_more : (hosts : ℕ) (linked : ℕ → ℕ → Bool) (run : List Step) (h d y : ℕ) (from : Option ℕ) (state after : ℕ → List Way) (sent after_sent : ℕ → ℕ → List (List ℤ))
    → IsNearer hosts linked run h d y from state after sent after_sent → (p q k : ℕ) (payload : List ℤ) → slice_get (sent p q) k ≡ Some payload
    → slice_get (after_sent p q) k ≡ Some payload
link_more hosts linked run h d y from state after sent after_sent new p q k payload here = elim (cases_eq p h) [
  | inr other ↦ ap (λ xs. slice_get xs k) (new.others p q other) ∙ here
  | inl same ↦
      let there : slice_get (sent h q) k ≡ Some payload = ap (λ x. slice_get (sent x q) k) (sym same) ∙ here in
      ap (λ x. slice_get (after_sent x q) k) same ∙ own (linked h q) refl (is_not from q) refl there
]
  where
    own : (a : Bool) → linked h q ≡ a → (b : Bool) → is_not from q ≡ b → slice_get (sent h q) k ≡ Some payload → slice_get (after_sent h q) k ≡ Some payload
    own true near true others there = ap (λ xs. slice_get xs k) (new.to q near others) ∙ get_more (sent h q) k payload (news d y) there
    own true near false others there = ap (λ xs. slice_get xs k) (new.not_to q (λ a b. let bad : true ≡ false = sym b ∙ others in cc)) ∙ there
    own false far b others there = ap (λ xs. slice_get xs k) (new.not_to q (λ a c. let bad : true ≡ false = sym a ∙ far in cc)) ∙ there

-- what is on a link was there, or is the news
link_was : (hosts : ℕ) (linked : ℕ → ℕ → Bool) (run : List Step) (h d y : ℕ) (from : Option ℕ) (state after : ℕ → List Way) (sent after_sent : ℕ → ℕ → List (List ℤ))
    → IsNearer hosts linked run h d y from state after sent after_sent → (p q k : ℕ) (payload : List ℤ) → slice_get (after_sent p q) k ≡ Some payload
    → (slice_get (sent p q) k ≡ Some payload) ⊎ ((p ≡ h) × (k ≡ length (sent p q)) × (news d y ≡ payload))
link_was hosts linked run h d y from state after sent after_sent new p q k payload here = elim (cases_eq p h) [
  | inr other ↦ inl (ap (λ xs. slice_get xs k) (sym (new.others p q other)) ∙ here)
  | inl same ↦ own same (linked h q) refl (is_not from q) refl
]
  where
    own : p ≡ h → (a : Bool) → linked h q ≡ a → (b : Bool) → is_not from q ≡ b
        → (slice_get (sent p q) k ≡ Some payload) ⊎ ((p ≡ h) × (k ≡ length (sent p q)) × (news d y ≡ payload))
    own same true near true others =
        let sent_is : after_sent p q ≡ sent p q ++ news d y ∷ [] = ap (λ x. after_sent x q) same ∙ new.to q near others ∙ ap (λ x. sent x q ++ news d y ∷ []) (sym same) in
        elim (get_last (sent p q) k payload (news d y) (ap (λ xs. slice_get xs k) (sym sent_is) ∙ here)) [
          | inl before ↦ inl before
          | inr last ↦ inr (same, last.0, last.1)
        ]
    own same true near false others = inl (off same (λ a b. let bad : true ≡ false = sym b ∙ others in cc))
      where
        off : p ≡ h → (linked h q ≡ true → is_not from q ≡ true → ⊥) → slice_get (sent p q) k ≡ Some payload
        off same none = ap (λ xs. slice_get xs k) (sym (ap (λ x. after_sent x q) same ∙ new.not_to q none ∙ ap (λ x. sent x q) (sym same))) ∙ here
    own same false far b others = inl (off same (λ a c. let bad : true ≡ false = sym a ∙ far in cc))
      where
        off : p ≡ h → (linked h q ≡ true → is_not from q ≡ true → ⊥) → slice_get (sent p q) k ≡ Some payload
        off same none = ap (λ xs. slice_get xs k) (sym (ap (λ x. after_sent x q) same ∙ new.not_to q none ∙ ap (λ x. sent x q) (sym same))) ∙ here

-- no link is shorter
link_long : (hosts : ℕ) (linked : ℕ → ℕ → Bool) (run : List Step) (h d y : ℕ) (from : Option ℕ) (state after : ℕ → List Way) (sent after_sent : ℕ → ℕ → List (List ℤ))
    → IsNearer hosts linked run h d y from state after sent after_sent → (p q : ℕ) → length (sent p q) ≤ length (after_sent p q)
link_long hosts linked run h d y from state after sent after_sent new p q = elim (cases_eq p h) [
  | inr other ↦ let same = ap length (new.others p q other) in omega (arith, same)
  | inl same ↦ subst (λ x. length (sent x q) ≤ length (after_sent x q)) (sym same) (own (linked h q) refl (is_not from q) refl)
]
  where
    own : (a : Bool) → linked h q ≡ a → (b : Bool) → is_not from q ≡ b → length (sent h q) ≤ length (after_sent h q)
    own true near true others = let long = ap length (new.to q near others) ∙ length-append (sent h q) (news d y ∷ []) in omega (arith, long)
    own true near false others = let long = ap length (new.not_to q (λ a b. let bad : true ≡ false = sym b ∙ others in cc)) in omega (arith, long)
    own false far b others = let long = ap length (new.not_to q (λ a c. let bad : true ≡ false = sym a ∙ far in cc)) in omega (arith, long)

-- with a nearer way all is held as before
pub held_nearer : (hosts : ℕ) (linked : ℕ → ℕ → Bool) → IsGraph hosts linked → (run : List Step) (h d y : ℕ) (from : Option ℕ) (state after : ℕ → List Way)
    (sent after_sent : ℕ → ℕ → List (List ℤ)) (received : ℕ → ℕ → ℕ) → IsHeld hosts linked run state sent received
    → IsNearer hosts linked run h d y from state after sent after_sent → IsHeld hosts linked run after after_sent received
held_nearer hosts linked shape run h d y from state after sent after_sent received held new = record {
  small = λ g e. let lower = less g e in let bound = held.small g e in omega (arith, lower, bound);
  ways = λ g e is. elim (way g e) [
    | inl here ↦ subst (λ a. IsKnown linked run after a e) (sym here.0) (subst (λ b. IsKnown linked run after h b) (sym here.1) own_way)
    | inr same ↦
        let distance : kept_to after g e ≡ kept_to state g e = ap (λ w. w.distance) same in
        let known = held.ways g e (omega (arith, distance, is)) in
        record {
          walk = subst (HasWalk linked g e) (sym distance) known.walk;
          begun = known.begun;
          hop = λ apart.
              let hop = known.hop apart in
              let lower = less hop.host e in
              let before = hop.nearer in
              record {
                host = hop.host;
                is_hop = ap (λ w. w.hop) same ∙ hop.is_hop;
                is_linked = hop.is_linked;
                nearer = omega (arith, lower, before, distance);
              };
        }
  ];
  tells = λ p q k payload here. elim (link_was hosts linked run h d y from state after sent after_sent new p q k payload here) [
    | inl before ↦
        let told = held.tells p q k payload before in
        let lower = less p told.d in
        let near = told.near in
        record { d = told.d; x = told.x; spelled = told.spelled; host = told.host; walk = told.walk; near = omega (arith, lower, near); given = told.given }
    | inr now ↦
        let here_is = new.here in
        let same : kept_to after p d ≡ kept_to after h d = ap (λ x. kept_to after x d) now.0 in
        record {
          d = d;
          x = y;
          spelled = sym now.2;
          host = new.host;
          walk = subst (λ x. HasWalk linked x d y) (sym now.0) new.walk;
          near = omega (arith, same, here_is);
          given = new.given;
        }
  ];
  told = λ p q e near is. elim (way p e) [
    | inl here ↦ tell p q e near here.0 here.1
    | inr same ↦
        let distance : kept_to after p e ≡ kept_to state p e = ap (λ w. w.distance) same in
        elim (held.told p q e near (omega (arith, distance, is))) [
          | inl on ↦ inl (record { k = on.k; here = link_more hosts linked run h d y from state after sent after_sent new p q on.k (news e (kept_to after p e)) (on.here ∙ ap (λ x. Some (news e x)) (sym distance)) })
          | inr nearer ↦ inr (let lower = less q e in omega (arith, lower, nearer, distance))
        ]
  ];
  heard = λ p q k e x got here small.
      let lower = less q e in
      elim (link_was hosts linked run h d y from state after sent after_sent new p q k (news e x) here) [
        | inl before ↦ let bound = held.heard p q k e x got before small in omega (arith, lower, bound)
        | inr now ↦ absurd (let few = held.few p q in let last = now.1 in omega (arith, few, last, got))
      ];
  few = λ p q. let few = held.few p q in let long = link_long hosts linked run h d y from state after sent after_sent new p q in omega (arith, few, long);
}
  where
    less : (g e : ℕ) → kept_to after g e ≤ kept_to state g e
    less = keeps_less hosts linked run h d y from state after sent after_sent new

    way : (g e : ℕ) → ((g ≡ h) × (e ≡ d)) ⊎ (way_to (after g) e ≡ way_to (state g) e)
    way = keeps_way hosts linked run h d y from state after sent after_sent new

    own_way : IsKnown linked run after h d
    own_way = record {
      walk = subst (HasWalk linked h d) (sym new.here) new.walk;
      begun = new.given;
      hop = λ apart.
          let hop = new.hop apart in
          let lower = keeps_less hosts linked run h d y from state after sent after_sent new hop.0 d in
          let before = hop.3 in
          let here = new.here in
          record { host = hop.0; is_hop = hop.1; is_linked = hop.2; nearer = omega (arith, lower, before, here) };
    }

    tell : (p q e : ℕ) → linked p q ≡ true → p ≡ h → e ≡ d → IsOnLink after_sent p q e (kept_to after p e) ⊎ (kept_to after q e < kept_to after p e)
    tell p q e near same dest =
        subst (λ x. IsOnLink after_sent x q e (kept_to after x e) ⊎ (kept_to after q e < kept_to after x e)) (sym same)
        (subst (λ x. IsOnLink after_sent h q x (kept_to after h x) ⊎ (kept_to after q x < kept_to after h x)) (sym dest)
        (by (is_not from q) refl (ap (λ x. linked x q) (sym same) ∙ near)))
      where
        by : (b : Bool) → is_not from q ≡ b → linked h q ≡ true → IsOnLink after_sent h q d (kept_to after h d) ⊎ (kept_to after q d < kept_to after h d)
        by true others near = inl (record {
          k = length (sent h q);
          here = ap (λ xs. slice_get xs (length (sent h q))) (new.to q near others) ∙ get_end (sent h q) (news d y) ∙ ap (λ x. Some (news d x)) (sym new.here);
        })
        by false others near =
            let lower = keeps_less hosts linked run h d y from state after sent after_sent new q d in
            let nearer = new.nearer q others in
            let here = new.here in
            inr (omega (arith, lower, nearer, here))

-- a receive that has been used may be counted
pub held_counted : (hosts : ℕ) (linked : ℕ → ℕ → Bool) (run : List Step) (state : ℕ → List Way) (sent : ℕ → ℕ → List (List ℤ)) (received : ℕ → ℕ → ℕ) (h p d x : ℕ)
    → IsHeld hosts linked run state sent received → slice_get (sent p h) (received p h) ≡ Some (news d x) → (x < 31 → kept_to state h d ≤ x + 1)
    → IsHeld hosts linked run state sent (put_at received p h (received p h + 1))
held_counted hosts linked run state sent received h p d x held here used = record {
  small = held.small;
  ways = held.ways;
  tells = held.tells;
  told = held.told;
  heard = λ a b k e z got there small. elim (cases_eq a p) [
    | inl from ↦ elim (cases_eq b h) [
      | inl to ↦
          let count : put_at received p h (received p h + 1) a b ≡ received p h + 1 =
          ap (λ u. put_at received p h (received p h + 1) u b) from ∙ ap (λ u. put_at received p h (received p h + 1) p u) to ∙ put_at_here received p h (received p h + 1) in
          let there_h : slice_get (sent p h) k ≡ Some (news e z) = ap (λ u. slice_get (sent u h) k) (sym from) ∙ ap (λ u. slice_get (sent a u) k) (sym to) ∙ there in
          subst (λ u. kept_to state u e ≤ z + 1) (sym to) (elim (cases_lt k (received p h)) [
            | inl before ↦ held.heard p h k e z before there_h small
            | inr last ↦
                let same : k ≡ received p h = omega (arith, last, got, count) in
                let both : ◌≡◌ {A = Option (List ℤ)} (Some (news d x)) (Some (news e z)) = sym here ∙ ap (slice_get (sent p h)) (sym same) ∙ there_h in
                let dest : d ≡ e = cc in
                let distance : x ≡ z = cc in
                let bound = used (omega (arith, distance, small)) in
                let moved : kept_to state h d ≡ kept_to state h e = ap (kept_to state h) dest in
                omega (arith, bound, distance, moved)
          ])
      | inr other ↦ held.heard a b k e z (subst (λ n. k < n) (ap (λ u. put_at received p h (received p h + 1) u b) from ∙ put_at_to received p h (received p h + 1) b other ∙ ap (λ u. received u b) (sym from)) got) there small
    ]
    | inr other ↦ held.heard a b k e z (subst (λ n. k < n) (put_at_from received p h (received p h + 1) a b other) got) there small
  ];
  few = λ a b. elim (cases_eq a p) [
    | inl from ↦ elim (cases_eq b h) [
      | inl to ↦
          let count : put_at received p h (received p h + 1) a b ≡ received p h + 1 =
          ap (λ u. put_at received p h (received p h + 1) u b) from ∙ ap (λ u. put_at received p h (received p h + 1) p u) to ∙ put_at_here received p h (received p h + 1) in
          let inside = slice_get_within (sent p h) (received p h) (news d x) here in
          let long : length (sent a b) ≡ length (sent p h) = ap (λ u. length (sent u b)) from ∙ ap (λ u. length (sent p u)) to in
          omega (arith, count, inside, long)
      | inr other ↦ subst (λ n. n ≤ length (sent a b)) (sym (ap (λ u. put_at received p h (received p h + 1) u b) from ∙ put_at_to received p h (received p h + 1) b other ∙ ap (λ u. received u b) (sym from))) (held.few a b)
    ]
    | inr other ↦ subst (λ n. n ≤ length (sent a b)) (sym (put_at_from received p h (received p h + 1) a b other)) (held.few a b)
  ];
}
