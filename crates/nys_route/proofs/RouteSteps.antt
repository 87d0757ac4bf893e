-- What holds of routes is kept by each step, and what it gives of a run.
use Rattle.std.proofs.Common.{◌≡◌, ℕ, ◌+◌, ◌<◌, ◌≤◌, ◌==◌, ◌&&◌, Bool, true, false, if◌then◌else◌, List, [], ◌∷◌, ◌++◌, length, fold, replicate, Option, Some, None, refl, sym, ap, ◌∙◌, subst, inl, inr, arith, eq-eqb, length-append}
use Rattle.std.specs.Prelude.{ℤ, pos, nat_lt, slice_get, slice_set}
use Rattle.std.proofs.lemmas.Bool.{and_from, cases_eq, cases_lt, eqb-true, eqb-false, ltb-true, ltb-false, lt-ltb, le-ltb, ne_eqb, not-false}
use Rattle.std.proofs.lemmas.List.{get_or-set_same, get_or-set_other, get_or_past, get_or-replicate, length-replicate, length-set}
use Rattle.std.proofs.lemmas.Option.{slice_get_within}
use Rattle.nys_graph.specs.Links.{IsGraph}
use Rattle.nys_source.specs.declared.effect.Effect.{Effect}
use Rattle.nys_source.specs.Runs.{after_run}
use Rattle.nys_source.specs.Source.{fresh, Source}
use Rattle.nys_source.specs.Steps.{after_effect, after_message, after_payload, counted, with_state}
use Rattle.nys_source.specs.Tables.{put, put_at}
use Rattle.nys_source.specs.declared.step.Step.{Step}
use Rattle.nys_source.specs.declared.step.Step.TheVariants.{Input, Receive, Stop}
use Rattle.nys_route.specs.Quiet.{input_in, inputs_of, IsQuietSystem}
use Rattle.nys_route.specs.Routed.{FindsDistances, HasBegun, kept_to, RoutesRuns}
use Rattle.nys_route.specs.Routes.{below, both, heard_from, news, news_of, no_way, route_next, route_rules, way_to, with_distance}
use Rattle.nys_route.specs.Sends.{is_not, is_other, sends_where}
use Rattle.nys_route.specs.Walks.{HasWalk, IsDistance, IsWalk}
use Rattle.nys_route.specs.declared.way.Way.{Way}
use Rattle.nys_route.specs.declared.way.TheConstants.{UNKNOWN, MAX_HEARD}
use Rattle.nys_route.proofs.EffectLemmas.{are_sent, put_else, put_here}
use Rattle.nys_route.proofs.ReachLemmas.{shorter_walk}
use Rattle.nys_route.proofs.RouteLemmas.{held_counted, held_nearer, held_on, Holds, IsHeld, IsNearer, keeps_less, link_more, OwnZero}
use Rattle.nys_route.proofs.RunLemmas.{inputs_grow, inputs_more, IsKept, kept_by_run}
use Rattle.nys_route.proofs.StepLemmas.{host_is, receive_is}

-- ---- what a host leaves that keeps a nearer way

-- the system after host h keeps this way to d and tells its neighbours
abbrev told_on : ℕ → (ℕ → ℕ → Bool) → ℕ → Option ℕ → ℕ → Way → Source (List Way) → Source (List Way)
told_on hosts linked h from d way now =
    fold (after_effect h) (with_state now h (slice_set (now.state h) d way)) (sends_where hosts (is_other linked h from) (news d way.distance))

-- what such a way asks
record IsWayFor (hosts : ℕ) (linked : ℕ → ℕ → Bool) (run : List Step) (h d : ℕ) (from : Option ℕ) (way : Way) (state : ℕ → List Way) : Type 0 where
  less : way.distance < kept_to state h d
  small : way.distance < UNKNOWN
  host : d < hosts
  walk : HasWalk linked h d way.distance
  given : HasBegun run d
  hop : (h ≡ d → ⊥) → (p : ℕ) × (way.hop ≡ Some p) × (linked h p ≡ true) × (kept_to state p d < way.distance)
  nearer : (q : ℕ) → is_not from q ≡ false → kept_to state q d < way.distance

-- what is known of d, where h keeps the way
way_here : (hosts : ℕ) (now : Source (List Way)) (h d : ℕ) (way : Way) → d < hosts → length (now.state h) ≡ hosts
    → way_to (put now.state h (slice_set (now.state h) d way) h) d ≡ way
way_here hosts now h d way host long =
    ap (λ s. way_to s d) (put_here now.state h (slice_set (now.state h) d way))
    ∙ get_or-set_same (now.state h) d way no_way (omega (arith, host, long))

told_nearer : (hosts : ℕ) (linked : ℕ → ℕ → Bool) → IsGraph hosts linked → (run : List Step) (h d : ℕ) (from : Option ℕ) (way : Way) (now : Source (List Way))
    → length (now.state h) ≡ hosts → IsWayFor hosts linked run h d from way now.state
    → IsNearer hosts linked run h d way.distance from now.state (told_on hosts linked h from d way now).state now.sent (told_on hosts linked h from d way now).sent
told_nearer hosts linked shape run h d from way now long is =
    let mid : Source (List Way) = with_state now h (slice_set (now.state h) d way) in
    let all = are_sent mid h hosts (is_other linked h from) (news d way.distance) in
    let here = way_here hosts now h d way is.host long in
    record {
      less = is.less;
      small = is.small;
      host = is.host;
      walk = is.walk;
      given = is.given;
      hop = λ apart.
          let hop = is.hop apart in
          (hop.0, ap (λ s. (way_to (s h) d).hop) all.state ∙ ap (λ w. w.hop) here ∙ hop.1, hop.2, hop.3);
      nearer = is.nearer;
      here = ap (λ s. kept_to s h d) all.state ∙ ap (λ w. w.distance) here;
      beside = λ e other.
          ap (λ s. way_to (s h) e) all.state
          ∙ ap (λ s. way_to s e) (put_here now.state h (slice_set (now.state h) d way))
          ∙ get_or-set_other (now.state h) d e way no_way other;
      elsewhere = λ g other. ap (λ s. s g) all.state ∙ put_else now.state h (slice_set (now.state h) d way) g other;
      to = λ q near others. all.to q (shape.within h q near).1 (and_from (linked h q) (is_not from q) near others);
      not_to = λ q none. all.not q (both_not (linked h q) (is_not from q) none);
      others = all.else;
    }
  where
    both_not : (a b : Bool) → (a ≡ true → b ≡ true → ⊥) → (a && b) ≡ false
    both_not true true none = absurd (none refl refl)
    both_not true false none = refl
    both_not false b none = refl

-- a state has a way for each host still
long_on : (hosts : ℕ) (linked : ℕ → ℕ → Bool) (h d : ℕ) (from : Option ℕ) (way : Way) (now : Source (List Way))
    → ((g : ℕ) → length (now.state g) ≡ hosts) → (g : ℕ) → length ((told_on hosts linked h from d way now).state g) ≡ hosts
long_on hosts linked h d from way now long g =
    let mid : Source (List Way) = with_state now h (slice_set (now.state h) d way) in
    let all = are_sent mid h hosts (is_other linked h from) (news d way.distance) in
    ap (λ s. length (s g)) all.state ∙ elim (cases_eq g h) [
      | inl same ↦
          ap (λ x. length (put now.state h (slice_set (now.state h) d way) x)) same
          ∙ ap length (put_here now.state h (slice_set (now.state h) d way))
          ∙ length-set (now.state h) d way ∙ long h
      | inr other ↦ ap length (put_else now.state h (slice_set (now.state h) d way) g other) ∙ long g
    ]

-- a host with the state that it had
same_state : (state : ℕ → List Way) (h : ℕ) → put state h (state h) ≡ state
same_state state h = λ i x. each x i
  where
    each : (x : ℕ) → put state h (state h) x ≡ state x
    each x = elim (cases_eq x h) [
      | inl same ↦ ap (put state h (state h)) same ∙ put_here state h (state h) ∙ ap state (sym same)
      | inr other ↦ put_else state h (state h) x other
    ]

-- ---- an input

-- with an input of h, h has had one
given_here : (run : List Step) (h : ℕ) (payload : List ℤ) → HasBegun (run ++ Input h payload ∷ []) h
given_here run h payload =
    let all = ap length (inputs_more h run (Input h payload) ∙ ap (λ b. inputs_of h run ++ (if b then payload ∷ [] else [])) (eq-eqb h h refl))
    ∙ length-append (inputs_of h run) (payload ∷ []) in
    omega (arith, all)

-- and others only if they had one before
given_else : (run : List Step) (h d : ℕ) (payload : List ℤ) → (d ≡ h → ⊥) → HasBegun (run ++ Input h payload ∷ []) d → HasBegun run d
given_else run h d payload other given =
    let none : (h == d) ≡ false = ne_eqb h d (λ same. other (sym same)) in
    let all = ap length (inputs_more d run (Input h payload) ∙ ap (λ b. inputs_of d run ++ (if b then payload ∷ [] else [])) none)
    ∙ length-append (inputs_of d run) [] in
    omega (arith, all, given)

-- so it is with a step that is no input
given_same : (run : List Step) (d : ℕ) (step : Step) → input_in d step ≡ [] → HasBegun (run ++ step ∷ []) d → HasBegun run d
given_same run d step none given =
    let all = ap length (inputs_more d run step ∙ ap (λ xs. inputs_of d run ++ xs) none) ∙ length-append (inputs_of d run) [] in
    omega (arith, all, given)

kept_input : (hosts : ℕ) (linked : ℕ → ℕ → Bool) → IsGraph hosts linked → (run : List Step) (now : Source (List Way)) (h : ℕ) (payload : List ℤ)
    → h < hosts → Holds hosts linked run now
    → Holds hosts linked (run ++ Input h payload ∷ []) (after_payload (route_rules hosts linked) now h None payload)
unfolding after_payload route_next
kept_input hosts linked shape run now h payload host before = go ((way_to (now.state h) h).distance == UNKNOWN) refl
  where
    Leaves : List Way × List Effect → Type 0
    Leaves made = Holds hosts linked (run ++ Input h payload ∷ []) (fold (after_effect h) (with_state now h made.0) made.1)

    go : (b : Bool) → ((way_to (now.state h) h).distance == UNKNOWN) ≡ b
        → Leaves (if b then (with_distance (now.state h) h 0, sends_where hosts (is_other linked h None) (news h 0)) else (now.state h, []))
    go true unknown =
        let way : Way = record { distance = 0; hop = (way_to (now.state h) h).hop } in
        let is = eqb-true (way_to (now.state h) h).distance UNKNOWN unknown in
        let new = told_nearer hosts linked shape (run ++ Input h payload ∷ []) h h None way now (before.long h) record {
          less = omega (arith, is);
          small = omega arith;
          host = host;
          walk = record { walk = []; is_walk = refl; links_are = refl };
          given = given_here run h payload;
          hop = λ apart. absurd (apart refl);
          nearer = λ q no. let bad : true ≡ false = no in cc;
        } in
        let all = are_sent (with_state now h (slice_set (now.state h) h way)) h hosts (is_other linked h None) (news h 0) in
        record {
          held = subst (IsHeld hosts linked (run ++ Input h payload ∷ []) (told_on hosts linked h None h way now).state (told_on hosts linked h None h way now).sent) (sym all.received)
              (held_nearer hosts linked shape (run ++ Input h payload ∷ []) h h 0 None now.state _ now.sent _ now.received
              (held_on hosts linked run (Input h payload) now.state now.sent now.received before.held) new);
          own = λ d given. elim (cases_eq d h) [
            | inl same ↦ subst (λ x. kept_to (told_on hosts linked h None h way now).state x x ≡ 0) (sym same) new.here
            | inr other ↦ ap (λ s. (way_to s d).distance) (new.elsewhere d other) ∙ before.own d (given_else run h d payload other given)
          ];
          long = long_on hosts linked h h None way now before.long;
        }
    go false some =
        let state_is = sym (same_state now.state h) in
        let small = before.held.small h h in
        let other = eqb-false (way_to (now.state h) h).distance UNKNOWN some in
        record {
          held = subst (λ s. IsHeld hosts linked (run ++ Input h payload ∷ []) s now.sent now.received) state_is
              (held_on hosts linked run (Input h payload) now.state now.sent now.received before.held);
          own = subst (OwnZero (run ++ Input h payload ∷ [])) state_is (λ d given. elim (cases_eq d h) [
            | inl same ↦
                let own = before.own h (before.held.ways h h (omega (arith, small, other))).begun in
                subst (λ x. kept_to now.state x x ≡ 0) (sym same) own
            | inr apart ↦ before.own d (given_else run h d payload apart given)
          ]);
          long = subst (λ (s : ℕ → List Way). (g : ℕ) → length (s g) ≡ hosts) state_is before.long;
        }

-- ---- a receive

-- news that are small enough are read as they are spelled
news_small : (hosts d x : ℕ) → d < hosts → x < 31 → news_of hosts (news d x) ≡ Some (d, x)
news_small hosts d x host small =
    ap (λ o. both o (below MAX_HEARD (pos x))) (ap (λ b. if b then Some d else None) (lt-ltb d hosts host))
    ∙ ap (λ o. both (Some d) o) (ap (λ b. if b then Some x else None) (lt-ltb x MAX_HEARD small))

-- others are none
news_large : (hosts d x : ℕ) → d < hosts → 31 ≤ x → news_of hosts (news d x) ≡ None
news_large hosts d x host large =
    ap (λ o. both o (below MAX_HEARD (pos x))) (ap (λ b. if b then Some d else None) (lt-ltb d hosts host))
    ∙ ap (λ o. both (Some d) o) (ap (λ b. if b then Some x else None) (le-ltb x MAX_HEARD large))

-- what a receive leaves that changes no state
kept_unchanged : (hosts : ℕ) (linked : ℕ → ℕ → Bool) (run : List Step) (now : Source (List Way)) (h p k d x : ℕ) → slice_get (now.sent p h) (now.received p h) ≡ Some (news d x)
    → (x < 31 → kept_to now.state h d ≤ x + 1) → Holds hosts linked run now
    → Holds hosts linked (run ++ Receive h p k ∷ []) (with_state (counted now p h) h (now.state h))
kept_unchanged hosts linked run now h p k d x here used before =
    let state_is = sym (same_state now.state h) in
    record {
      held = subst (λ s. IsHeld hosts linked (run ++ Receive h p k ∷ []) s now.sent (put_at now.received p h (now.received p h + 1))) state_is
          (held_counted hosts linked (run ++ Receive h p k ∷ []) now.state now.sent now.received h p d x
          (held_on hosts linked run (Receive h p k) now.state now.sent now.received before.held) here used);
      own = subst (OwnZero (run ++ Receive h p k ∷ [])) state_is (λ e given. before.own e (given_same run e (Receive h p k) refl given));
      long = subst (λ (s : ℕ → List Way). (g : ℕ) → length (s g) ≡ hosts) state_is before.long;
    }

-- what a receive of nearer news leaves
kept_nearer : (hosts : ℕ) (linked : ℕ → ℕ → Bool) → IsGraph hosts linked → (run : List Step) (now : Source (List Way)) (h p k d x : ℕ)
    → slice_get (now.sent p h) (now.received p h) ≡ Some (news d x) → linked p h ≡ true → d < hosts → x < 31 → HasWalk linked p d x
    → kept_to now.state p d ≤ x → HasBegun run d → x + 1 < kept_to now.state h d → Holds hosts linked run now
    → Holds hosts linked (run ++ Receive h p k ∷ []) (told_on hosts linked h (Some p) d (record { distance = x + 1; hop = Some p }) (counted now p h))
kept_nearer hosts linked shape run now h p k d x here near host small walk closer given less before =
    let way : Way = record { distance = x + 1; hop = Some p } in
    let links = walk.links_are in
    let new = told_nearer hosts linked shape (run ++ Receive h p k ∷ []) h d (Some p) way (counted now p h) (before.long h) record {
      less = less;
      small = omega (arith, small);
      host = host;
      walk = record { walk = p ∷ walk.walk; is_walk = (shape.symmetric h p ∙ near, walk.is_walk); links_are = omega (arith, links) };
      given = (let more = inputs_grow d run (Receive h p k) in omega (arith, more, given));
      hop = λ apart. (p, refl, shape.symmetric h p ∙ near, omega (arith, closer));
      nearer = λ q is.
          let same : q ≡ p = eqb-true q p (not-false (q == p) is) in
          let moved : kept_to now.state q d ≡ kept_to now.state p d = ap (λ u. kept_to now.state u d) same in
          omega (arith, moved, closer);
    } in
    let all = are_sent (with_state (counted now p h) h (slice_set (now.state h) d way)) h hosts (is_other linked h (Some p)) (news d (x + 1)) in
    let after = told_on hosts linked h (Some p) d way (counted now p h) in
    let run_after = run ++ Receive h p k ∷ [] in
    let less_all = keeps_less hosts linked run_after h d (x + 1) (Some p) now.state after.state now.sent after.sent new in
    let used = new.here in
    record {
      held = subst (IsHeld hosts linked run_after after.state after.sent) (sym all.received)
          (held_counted hosts linked run_after after.state after.sent now.received h p d x
          (held_nearer hosts linked shape run_after h d (x + 1) (Some p) now.state after.state now.sent after.sent now.received
          (held_on hosts linked run (Receive h p k) now.state now.sent now.received before.held) new)
          (link_more hosts linked run_after h d (x + 1) (Some p) now.state after.state now.sent after.sent new p h (now.received p h) (news d x) here)
          (λ low. omega (arith, used)));
      own = λ e begun.
          let own = before.own e (given_same run e (Receive h p k) refl begun) in
          let lower = less_all e e in
          omega (arith, own, lower);
      long = long_on hosts linked h d (Some p) way (counted now p h) before.long;
    }

-- a receive of news
kept_news : (hosts : ℕ) (linked : ℕ → ℕ → Bool) → IsGraph hosts linked → (run : List Step) (now : Source (List Way)) (h p k d x : ℕ)
    → slice_get (now.sent p h) (now.received p h) ≡ Some (news d x) → linked p h ≡ true → p < hosts → d < hosts → HasWalk linked p d x
    → kept_to now.state p d ≤ x → HasBegun run d → Holds hosts linked run now
    → Holds hosts linked (run ++ Receive h p k ∷ []) (after_payload (route_rules hosts linked) (counted now p h) h (Some p) (news d x))
unfolding after_payload route_next
kept_news hosts linked shape run now h p k d x here near sender host walk closer given before =
    subst (λ b. Leaves (if b then heard_from hosts linked h (now.state h) p (news_of hosts (news d x)) else (now.state h, []))) (sym (lt-ltb p hosts sender))
    (elim (cases_lt x 31) [
      | inl small ↦
          subst (λ o. Leaves (heard_from hosts linked h (now.state h) p o)) (sym (news_small hosts d x host small))
          (go small (nat_lt (x + 1) (way_to (now.state h) d).distance) refl)
      | inr large ↦
          subst (λ o. Leaves (heard_from hosts linked h (now.state h) p o)) (sym (news_large hosts d x host large))
          (kept_unchanged hosts linked run now h p k d x here (λ small. absurd (omega (arith, small, large))) before)
    ])
  where
    Leaves : List Way × List Effect → Type 0
    Leaves made = Holds hosts linked (run ++ Receive h p k ∷ []) (fold (after_effect h) (with_state (counted now p h) h made.0) made.1)

    go : x < 31 → (b : Bool) → nat_lt (x + 1) (way_to (now.state h) d).distance ≡ b
        → Leaves (if b then (slice_set (now.state h) d (record { distance = x + 1; hop = Some p }), sends_where hosts (is_other linked h (Some p)) (news d (x + 1))) else (now.state h, []))
    go small true nearer = kept_nearer hosts linked shape run now h p k d x here near host small walk closer given (ltb-true (x + 1) (way_to (now.state h) d).distance nearer) before
    go small false farther = kept_unchanged hosts linked run now h p k d x here (λ low. ltb-false (x + 1) (way_to (now.state h) d).distance farther) before

-- every step
route_kept : (hosts : ℕ) (linked : ℕ → ℕ → Bool) → IsGraph hosts linked → IsKept (route_rules hosts linked) (Holds hosts linked)
route_kept hosts linked shape run now (Input h payload) before allowed =
    kept_input hosts linked shape run now h payload (host_is (route_rules hosts linked) now h allowed) before
route_kept hosts linked shape run now (Receive h p k) before allowed =
    let is = receive_is (route_rules hosts linked) now h p k allowed in
    let told = before.held.tells p h k is.payload is.here in
    let here : slice_get (now.sent p h) k ≡ Some (news told.d told.x) = is.here ∙ ap Some told.spelled in
    subst (λ o. Holds hosts linked (run ++ Receive h p k ∷ []) (after_message (route_rules hosts linked) now h p o)) (sym here)
    (kept_news hosts linked shape run now h p k told.d told.x (ap (slice_get (now.sent p h)) (sym is.next) ∙ here) is.linked is.sender told.host told.walk told.near told.given before)
route_kept hosts linked shape run now (Stop h) before allowed = record {
  held = held_on hosts linked run (Stop h) now.state now.sent now.received before.held;
  own = λ d given. before.own d (given_same run d (Stop h) refl given);
  long = before.long;
}

-- ---- the beginning

-- nothing is known at first
none_at : (hosts d : ℕ) → way_to (replicate hosts no_way) d ≡ no_way
none_at hosts d = elim (cases_lt d hosts) [
  | inl inside ↦ get_or-replicate hosts d no_way no_way inside
  | inr past ↦ let long = length-replicate hosts no_way in get_or_past (replicate hosts no_way) d no_way (omega (arith, long, past))
]

route_first : (hosts : ℕ) (linked : ℕ → ℕ → Bool) → Holds hosts linked [] (fresh (route_rules hosts linked))
route_first hosts linked = record {
  held = record {
    small = λ h d. let is = ap (λ w. w.distance) (none_at hosts d) in omega (arith, is);
    ways = λ h d less. let is = ap (λ w. w.distance) (none_at hosts d) in absurd (omega (arith, is, less));
    tells = λ p h k payload here. let no : ◌≡◌ {A = Option (List ℤ)} None (Some payload) = here in cc;
    told = λ p h d near less. let is = ap (λ w. w.distance) (none_at hosts d) in absurd (omega (arith, is, less));
    heard = λ p h k d x got here small. absurd (omega (arith, got));
    few = λ p h. omega arith;
  };
  own = λ d given. let none : 1 ≤ 0 = given in absurd (omega (arith, none));
  long = λ h. length-replicate hosts no_way;
}

-- ---- quiet runs

-- a host keeps no more than the links of a walk of at most 31
quiet_bound : (hosts : ℕ) (linked : ℕ → ℕ → Bool) → IsGraph hosts linked → (run : List Step) (now : Source (List Way)) → Holds hosts linked run now
    → IsQuietSystem (route_rules hosts linked) now → (d : ℕ) → HasBegun run d → (walk : List ℕ) (h : ℕ) → IsWalk linked h d walk → length walk ≤ 31
    → kept_to now.state h d ≤ length walk
quiet_bound hosts linked shape run now holds quiet d given [] h is few =
    let own = ap (λ u. kept_to now.state u d) is ∙ holds.own d given in omega (arith, own)
quiet_bound hosts linked shape run now holds quiet d given (q ∷ rest) h is few =
    let bound = quiet_bound hosts linked shape run now holds quiet d given rest q is.1 (omega (arith, few)) in
    let near : linked q h ≡ true = shape.symmetric q h ∙ is.0 in
    elim (holds.held.told q h d near (omega (arith, bound, few))) [
      | inl on ↦
          let inside = slice_get_within (now.sent q h) on.k (news d (kept_to now.state q d)) on.here in
          let all = quiet.received q h near in
          let used = holds.held.heard q h on.k d (kept_to now.state q d) (omega (arith, inside, all)) on.here (omega (arith, bound, few)) in
          omega (arith, used, bound)
      | inr nearer ↦ omega (arith, nearer, bound)
    ]

-- what is known is the distance
quiet_distance : (hosts : ℕ) (linked : ℕ → ℕ → Bool) → IsGraph hosts linked → (run : List Step) (now : Source (List Way)) → Holds hosts linked run now
    → IsQuietSystem (route_rules hosts linked) now → FindsDistances hosts linked run now.state
quiet_distance hosts linked shape run now holds quiet h d host given = go (nat_lt (kept_to now.state h d) UNKNOWN) refl
  where
    go : (b : Bool) → nat_lt (kept_to now.state h d) UNKNOWN ≡ b → IsDistance linked h d (if b then Some (kept_to now.state h d) else None)
    go true less =
        let low = ltb-true (kept_to now.state h d) UNKNOWN less in
        let way = holds.held.ways h d low in
        record {
          some = way.walk;
          least = λ walk is. elim (cases_lt 31 (length walk)) [
            | inl long ↦ omega (arith, long, low)
            | inr short ↦ quiet_bound hosts linked shape run now holds quiet d given walk h is short
          ];
        }
    go false none = λ walk is.
        let soon = shorter_walk hosts linked shape h d walk host is in
        let short = soon.2.short in
        let few = soon.1 in
        let hosts_few = shape.few in
        let bound = quiet_bound hosts linked shape run now holds quiet d given soon.2.walk h soon.2.is_walk (omega (arith, short, few, hosts_few)) in
        let large = ltb-false (kept_to now.state h d) UNKNOWN none in
        omega (arith, bound, large, short, few, hosts_few)

-- what is known of routes in every run
pub routes_runs : RoutesRuns
routes_runs hosts linked shape run is =
    let holds = kept_by_run (route_rules hosts linked) (Holds hosts linked) (route_kept hosts linked shape) (route_first hosts linked) run is in
    record {
      ways = holds.held.ways;
      quiet = λ quiet. quiet_distance hosts linked shape run (after_run (route_rules hosts linked) run) holds quiet;
    }
