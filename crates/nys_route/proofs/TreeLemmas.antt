-- What the root is given goes down the tree of parents, in order.
use Rattle.std.proofs.Common.{◌≡◌, ℕ, zero, suc, ◌+◌, ◌<◌, ◌≤◌, ◌==◌, Bool, true, false, if◌then◌else◌, List, [], ◌∷◌, ◌++◌, length, take, drop, fold, Option, Some, None, refl, sym, ap, ◌∙◌, subst, inl, inr, arith, eq-eqb, length-append}
use Rattle.std.specs.Prelude.{ℤ, slice_get}
use Rattle.std.proofs.lemmas.Bool.{and_from, cases_eq, eqb-true}
use Rattle.std.proofs.lemmas.List.{append-nil, take-append-drop, take-append-le, take_all}
use Rattle.std.proofs.lemmas.Option.{slice_get_within}
use Rattle.nys_graph.specs.Links.{IsGraph}
use Rattle.nys_source.specs.Runs.{after_run}
use Rattle.nys_source.specs.Source.{fresh, Source}
use Rattle.nys_source.specs.Steps.{after_effect, after_message, after_payload, counted, with_state}
use Rattle.nys_source.specs.Tables.{put_at}
use Rattle.nys_source.specs.declared.effect.Effect.TheVariants.{Out}
use Rattle.nys_source.specs.declared.step.Step.{Step}
use Rattle.nys_source.specs.declared.step.Step.TheVariants.{Input, Receive, Stop}
use Rattle.nys_route.specs.Multicast.{MulticastsRuns}
use Rattle.nys_route.specs.Parents.{IsParent, IsParentOf, parent_of}
use Rattle.nys_route.specs.Quiet.{input_in, inputs_of, IsQuietSystem}
use Rattle.nys_route.specs.Sends.{sends_where}
use Rattle.nys_route.specs.Trees.{is_child, is_host, tree_next, tree_rules}
use Rattle.nys_route.specs.Walks.{IsLeast}
use Rattle.nys_route.proofs.EffectLemmas.{are_sent, put_at_here, put_at_from, put_at_to, put_else, put_here}
use Rattle.nys_route.proofs.ParentLemmas.{parent_exact}
use Rattle.nys_route.proofs.ReachLemmas.{least_one, walk_least}
use Rattle.nys_route.proofs.RunLemmas.{inputs_more, IsKept, kept_by_run}
use Rattle.nys_route.proofs.SentLemmas.{take_next}
use Rattle.nys_route.proofs.StepLemmas.{receive_is}

-- parents are neighbours, and the root has none
record AreParents (linked : ℕ → ℕ → Bool) (root : ℕ) (parent : ℕ → Option ℕ) : Type 0 where
  near : (h p : ℕ) → parent h ≡ Some p → linked h p ≡ true
  apart : (h p : ℕ) → parent h ≡ Some p → p ≡ h → ⊥
  top : (p : ℕ) → parent root ≡ Some p → ⊥

-- what is passed on so far: each link of the tree has its sender's outputs, and each host has put out what
-- it received
record IsPassed (root : ℕ) (parent : ℕ → Option ℕ) (run : List Step) (outs : ℕ → List (List ℤ)) (sent : ℕ → ℕ → List (List ℤ)) (received : ℕ → ℕ → ℕ) : Type 0 where
  top : outs root ≡ inputs_of root run
  sent_is : (h p : ℕ) → parent h ≡ Some p → sent p h ≡ outs p
  heard : (h p : ℕ) → parent h ≡ Some p → outs h ≡ take (received p h) (sent p h)
  few : (h p : ℕ) → parent h ≡ Some p → received p h ≤ length (sent p h)

-- the same of a system
abbrev Holds : ℕ → (ℕ → Option ℕ) → List Step → Source (Unit {0}) → Type 0
Holds root parent run now = IsPassed root parent run now.outs now.sent now.received

-- host h puts a payload out and sends it to its children
record PutsOut (parent : ℕ → Option ℕ) (h : ℕ) (payload : List ℤ) (outs after_outs : ℕ → List (List ℤ)) (sent after_sent : ℕ → ℕ → List (List ℤ)) : Type 0 where
  outs_here : after_outs h ≡ outs h ++ payload ∷ []
  outs_else : (g : ℕ) → (g ≡ h → ⊥) → after_outs g ≡ outs g
  sent_down : (q : ℕ) → parent q ≡ Some h → after_sent h q ≡ sent h q ++ payload ∷ []
  sent_else : (p q : ℕ) → (p ≡ h → ⊥) → after_sent p q ≡ sent p q

-- with what h puts out all is passed on as before, where h has put out what it received
passed_more : (linked : ℕ → ℕ → Bool) (root : ℕ) (parent : ℕ → Option ℕ) → AreParents linked root parent → (run more : List Step) (h : ℕ) (payload : List ℤ)
    (outs after_outs : ℕ → List (List ℤ)) (sent after_sent : ℕ → ℕ → List (List ℤ)) (received after_received : ℕ → ℕ → ℕ)
    → IsPassed root parent run outs sent received → PutsOut parent h payload outs after_outs sent after_sent
    → after_outs root ≡ inputs_of root more
    → ((q a : ℕ) → parent q ≡ Some a → (q ≡ h → ⊥) → after_received a q ≡ received a q)
    → ((a : ℕ) → parent h ≡ Some a → (outs h ++ payload ∷ [] ≡ take (after_received a h) (sent a h)) × (after_received a h ≤ length (sent a h)))
    → IsPassed root parent more after_outs after_sent after_received
passed_more linked root parent are run more h payload outs after_outs sent after_sent received after_received before puts top counts own = record {
  top = top;
  sent_is = λ q a is. elim (cases_eq a h) [
    | inl same ↦
        let down : parent q ≡ Some h = is ∙ ap Some same in
        ap (λ x. after_sent x q) same ∙ puts.sent_down q down ∙ ap (λ xs. xs ++ payload ∷ []) (before.sent_is q h down) ∙ sym puts.outs_here ∙ ap after_outs (sym same)
    | inr other ↦ puts.sent_else a q other ∙ before.sent_is q a is ∙ sym (puts.outs_else a other)
  ];
  heard = λ q a is. elim (cases_eq q h) [
    | inl same ↦
        let here : parent h ≡ Some a = ap parent (sym same) ∙ is in
        let apart : a ≡ h → ⊥ = are.apart h a here in
        ap after_outs same ∙ puts.outs_here ∙ (own a here).0
        ∙ ap (take (after_received a h)) (sym (puts.sent_else a h apart))
        ∙ ap (λ x. take (after_received a x) (after_sent a x)) (sym same)
    | inr other ↦
        puts.outs_else q other ∙ before.heard q a is ∙ ap (λ n. take n (sent a q)) (sym (counts q a is other))
        ∙ longer q a is (subst (λ n. n ≤ length (sent a q)) (sym (counts q a is other)) (before.few q a is))
  ];
  few = λ q a is. elim (cases_eq q h) [
    | inl same ↦
        let here : parent h ≡ Some a = ap parent (sym same) ∙ is in
        subst (λ x. after_received a x ≤ length (after_sent a x)) (sym same)
        (subst (λ xs. after_received a h ≤ length xs) (sym (puts.sent_else a h (are.apart h a here))) (own a here).1)
    | inr other ↦ grown q a is (subst (λ n. n ≤ length (sent a q)) (sym (counts q a is other)) (before.few q a is))
  ];
}
  where
    longer : (q a : ℕ) → parent q ≡ Some a → after_received a q ≤ length (sent a q) → take (after_received a q) (sent a q) ≡ take (after_received a q) (after_sent a q)
    longer q a is few = elim (cases_eq a h) [
      | inl same ↦
          subst (λ x. take (after_received x q) (sent x q) ≡ take (after_received x q) (after_sent x q)) (sym same)
          (sym (ap (take (after_received h q)) (puts.sent_down q (is ∙ ap Some same))
          ∙ take-append-le (after_received h q) (sent h q) (payload ∷ []) (subst (λ x. after_received x q ≤ length (sent x q)) same few)))
      | inr other ↦ ap (take (after_received a q)) (sym (puts.sent_else a q other))
    ]

    grown : (q a : ℕ) → parent q ≡ Some a → after_received a q ≤ length (sent a q) → after_received a q ≤ length (after_sent a q)
    grown q a is few = elim (cases_eq a h) [
      | inl same ↦
          let long = ap length (puts.sent_down q (is ∙ ap Some same)) ∙ length-append (sent h q) (payload ∷ []) in
          let less : after_received h q ≤ length (sent h q) = subst (λ x. after_received x q ≤ length (sent x q)) same few in
          subst (λ x. after_received x q ≤ length (after_sent x q)) (sym same) (omega (arith, long, less))
      | inr other ↦ subst (λ xs. after_received a q ≤ length xs) (sym (puts.sent_else a q other)) few
    ]

-- what is received off the tree changes nothing
passed_same : (root : ℕ) (parent : ℕ → Option ℕ) (run more : List Step) (outs : ℕ → List (List ℤ)) (sent : ℕ → ℕ → List (List ℤ))
    (received after_received : ℕ → ℕ → ℕ) → IsPassed root parent run outs sent received → inputs_of root more ≡ inputs_of root run
    → ((q a : ℕ) → parent q ≡ Some a → after_received a q ≡ received a q) → IsPassed root parent more outs sent after_received
passed_same root parent run more outs sent received after_received before inputs counts = record {
  top = before.top ∙ sym inputs;
  sent_is = before.sent_is;
  heard = λ q a is. before.heard q a is ∙ ap (λ n. take n (sent a q)) (sym (counts q a is));
  few = λ q a is. subst (λ n. n ≤ length (sent a q)) (sym (counts q a is)) (before.few q a is);
}

-- ---- one taking of a host

-- the system after host h passes a payload on
abbrev passed_on : ℕ → (ℕ → ℕ → Bool) → (ℕ → Option ℕ) → ℕ → List ℤ → Source (Unit {0}) → Source (Unit {0})
passed_on hosts linked parent h payload now =
    fold (after_effect h) (after_effect h (with_state now h tt) (Out payload)) (sends_where hosts (is_child linked parent h) payload)

-- what it has
record HasPassed (parent : ℕ → Option ℕ) (h : ℕ) (payload : List ℤ) (now after : Source (Unit {0})) : Type 0 where
  puts : PutsOut parent h payload now.outs after.outs now.sent after.sent
  received : after.received ≡ now.received

has_passed : (hosts : ℕ) (linked : ℕ → ℕ → Bool) → IsGraph hosts linked → (root : ℕ) (parent : ℕ → Option ℕ) → AreParents linked root parent
    → (h : ℕ) (payload : List ℤ) (now : Source (Unit {0})) → HasPassed parent h payload now (passed_on hosts linked parent h payload now)
has_passed hosts linked shape root parent are h payload now =
    let out : Source (Unit {0}) = after_effect h (with_state now h tt) (Out payload) in
    let all = are_sent out h hosts (is_child linked parent h) payload in
    record {
      puts = record {
        outs_here = ap (λ f. f h) all.outs ∙ put_here now.outs h (now.outs h ++ payload ∷ []);
        outs_else = λ g other. ap (λ f. f g) all.outs ∙ put_else now.outs h (now.outs h ++ payload ∷ []) g other;
        sent_down = λ q is.
            let near : linked q h ≡ true = are.near q h is in
            let child : is_child linked parent h q ≡ true =
            and_from (linked h q) (is_host (parent q) h) (shape.symmetric h q ∙ near) (ap (λ o. is_host o h) is ∙ eq-eqb h h refl) in
            all.to q (shape.within q h near).0 child;
        sent_else = all.else;
      };
      received = all.received;
    }

-- who passes a message on takes it from its parent
is_host_some : (o : Option ℕ) (p : ℕ) → is_host o p ≡ true → o ≡ Some p
is_host_some None p e = cc
is_host_some (Some q) p e = ap Some (eqb-true q p e)

-- who does not has another parent, or none
not_host_some : (o : Option ℕ) (p : ℕ) → is_host o p ≡ false → o ≡ Some p → ⊥
not_host_some None p e is = cc
not_host_some (Some q) p e is =
    let same : q ≡ p = cc in
    let no : true ≡ false = sym (eq-eqb q p same) ∙ e in
    cc

-- ---- each step

-- the inputs of the root, where another host has an input
inputs_other : (root h : ℕ) (run : List Step) (payload : List ℤ) → (h == root) ≡ false → inputs_of root (run ++ Input h payload ∷ []) ≡ inputs_of root run
inputs_other root h run payload other =
    inputs_more root run (Input h payload)
    ∙ ap (λ b. inputs_of root run ++ (if b then payload ∷ [] else [])) other
    ∙ append-nil (inputs_of root run)

-- an input
kept_input : (hosts : ℕ) (linked : ℕ → ℕ → Bool) → IsGraph hosts linked → (root : ℕ) → AreParents linked root (parent_of hosts linked root)
    → (run : List Step) (now : Source (Unit {0})) (h : ℕ) (payload : List ℤ) → Holds root (parent_of hosts linked root) run now
    → Holds root (parent_of hosts linked root) (run ++ Input h payload ∷ []) (after_payload (tree_rules hosts linked root) now h None payload)
unfolding after_payload tree_next
kept_input hosts linked shape root are run now h payload before = go (h == root) refl
  where
    parent : ℕ → Option ℕ
    parent = parent_of hosts linked root

    go : (b : Bool) → (h == root) ≡ b → Holds root (parent_of hosts linked root) (run ++ Input h payload ∷ [])
        (fold (after_effect h) (with_state now h tt) (if b then Out payload ∷ sends_where hosts (is_child linked (parent_of hosts linked root) h) payload else []))
    go true top =
        let has = has_passed hosts linked shape root (parent_of hosts linked root) are h payload now in
        let same : h ≡ root = eqb-true h root top in
        passed_more linked root (parent_of hosts linked root) are run (run ++ Input h payload ∷ []) h payload now.outs _ now.sent _ now.received _ before has.puts
        (subst (λ r. (passed_on hosts linked (parent_of hosts linked root) h payload now).outs r ≡ inputs_of r (run ++ Input h payload ∷ [])) same
        (has.puts.outs_here
        ∙ ap (λ xs. xs ++ payload ∷ []) (subst (λ r. now.outs r ≡ inputs_of r run) (sym same) before.top)
        ∙ ap (λ b. inputs_of h run ++ (if b then payload ∷ [] else [])) (sym (eq-eqb h h refl))
        ∙ sym (inputs_more h run (Input h payload))))
        (λ q a is other. ap (λ f. f a q) has.received)
        (λ a is. absurd (are.top a (ap (parent_of hosts linked root) (sym same) ∙ is)))
    go false other =
        passed_same root (parent_of hosts linked root) run (run ++ Input h payload ∷ []) now.outs now.sent now.received now.received before
        (inputs_other root h run payload other) (λ q a is. refl)

-- the inputs of the root, where a host receives
inputs_same : (root : ℕ) (run : List Step) (step : Step) → input_in root step ≡ [] → inputs_of root (run ++ step ∷ []) ≡ inputs_of root run
inputs_same root run step none = inputs_more root run step ∙ ap (λ xs. inputs_of root run ++ xs) none ∙ append-nil (inputs_of root run)

-- a receive of this payload
kept_receive : (hosts : ℕ) (linked : ℕ → ℕ → Bool) → IsGraph hosts linked → (root : ℕ) → AreParents linked root (parent_of hosts linked root)
    → (run : List Step) (now : Source (Unit {0})) (h p k : ℕ) (payload : List ℤ) → slice_get (now.sent p h) k ≡ Some payload → k ≡ now.received p h
    → Holds root (parent_of hosts linked root) run now
    → Holds root (parent_of hosts linked root) (run ++ Receive h p k ∷ []) (after_payload (tree_rules hosts linked root) (counted now p h) h (Some p) payload)
unfolding after_payload tree_next
kept_receive hosts linked shape root are run now h p k payload here next before = go (is_host (parent_of hosts linked root h) p) refl
  where
    go : (b : Bool) → is_host (parent_of hosts linked root h) p ≡ b → Holds root (parent_of hosts linked root) (run ++ Receive h p k ∷ [])
        (fold (after_effect h) (with_state (counted now p h) h tt) (if b then Out payload ∷ sends_where hosts (is_child linked (parent_of hosts linked root) h) payload else []))
    go true from =
        let parent = parent_of hosts linked root in
        let has = has_passed hosts linked shape root (parent_of hosts linked root) are h payload (counted now p h) in
        let own : parent_of hosts linked root h ≡ Some p = is_host_some (parent_of hosts linked root h) p from in
        passed_more linked root (parent_of hosts linked root) are run (run ++ Receive h p k ∷ []) h payload now.outs _ now.sent _ now.received _ before has.puts
        (elim (cases_eq root h) [
          | inl same ↦ absurd (are.top p (ap (parent_of hosts linked root) same ∙ own))
          | inr other ↦ has.puts.outs_else root other ∙ before.top ∙ sym (inputs_same root run (Receive h p k) refl)
        ])
        (λ q a is other. ap (λ f. f a q) has.received ∙ off_link q a other)
        (λ a is.
        let same : p ≡ a = some_same own is in
        let count : (passed_on hosts linked (parent_of hosts linked root) h payload (counted now p h)).received a h ≡ now.received p h + 1 =
        ap (λ f. f a h) has.received ∙ ap (λ x. put_at now.received p h (now.received p h + 1) x h) (sym same) ∙ put_at_here now.received p h (now.received p h + 1) in
        let taken : slice_get (now.sent p h) (now.received p h) ≡ Some payload = ap (slice_get (now.sent p h)) (sym next) ∙ here in
        let inside = slice_get_within (now.sent p h) (now.received p h) payload taken in (
          ap (λ xs. xs ++ payload ∷ []) (before.heard h p own)
              ∙ sym (take_next (now.sent p h) (now.received p h) payload taken)
              ∙ ap (λ n. take n (now.sent p h)) (sym count)
              ∙ ap (λ x. take ((passed_on hosts linked (parent_of hosts linked root) h payload (counted now p h)).received a h) (now.sent x h)) same,
          subst (λ x. (passed_on hosts linked (parent_of hosts linked root) h payload (counted now p h)).received a h ≤ length (now.sent x h)) same
              (omega (arith, count, inside)),
        ))
      where
        some_same : {a b : ℕ} → parent_of hosts linked root h ≡ Some a → parent_of hosts linked root h ≡ Some b → a ≡ b
        some_same one two = let both = sym one ∙ two in cc

        off_link : (q a : ℕ) → (q ≡ h → ⊥) → put_at now.received p h (now.received p h + 1) a q ≡ now.received a q
        off_link q a other = elim (cases_eq a p) [
          | inl same ↦ subst (λ x. put_at now.received p h (now.received p h + 1) x q ≡ now.received x q) (sym same) (put_at_to now.received p h (now.received p h + 1) q other)
          | inr apart ↦ put_at_from now.received p h (now.received p h + 1) a q apart
        ]
    go false off =
        passed_same root (parent_of hosts linked root) run (run ++ Receive h p k ∷ []) now.outs now.sent now.received (counted now p h).received before
        (inputs_same root run (Receive h p k) refl) off_tree
      where
        off_tree : (q a : ℕ) → parent_of hosts linked root q ≡ Some a → put_at now.received p h (now.received p h + 1) a q ≡ now.received a q
        off_tree q a is = elim (cases_eq a p) [
          | inl same ↦ elim (cases_eq q h) [
            | inl here ↦ absurd (not_host_some (parent_of hosts linked root h) p off (ap (parent_of hosts linked root) (sym here) ∙ is ∙ ap Some same))
            | inr other ↦ subst (λ x. put_at now.received p h (now.received p h + 1) x q ≡ now.received x q) (sym same) (put_at_to now.received p h (now.received p h + 1) q other)
          ]
          | inr apart ↦ put_at_from now.received p h (now.received p h + 1) a q apart
        ]

-- every step
tree_kept : (hosts : ℕ) (linked : ℕ → ℕ → Bool) → IsGraph hosts linked → (root : ℕ) → AreParents linked root (parent_of hosts linked root)
    → IsKept (tree_rules hosts linked root) (Holds root (parent_of hosts linked root))
tree_kept hosts linked shape root are run now (Input h payload) before allowed = kept_input hosts linked shape root are run now h payload before
tree_kept hosts linked shape root are run now (Receive h p k) before allowed =
    let is = receive_is (tree_rules hosts linked root) now h p k allowed in
    subst (λ o. Holds root (parent_of hosts linked root) (run ++ Receive h p k ∷ []) (after_message (tree_rules hosts linked root) now h p o)) (sym is.here)
    (kept_receive hosts linked shape root are run now h p k is.payload is.here is.next before)
tree_kept hosts linked shape root are run now (Stop h) before allowed =
    passed_same root (parent_of hosts linked root) run (run ++ Stop h ∷ []) now.outs now.sent now.received now.received before
    (inputs_same root run (Stop h) refl) (λ q a is. refl)

-- ---- the theorem

-- the parent by distances is the one that is found
parent_is : (hosts : ℕ) (linked : ℕ → ℕ → Bool) → IsGraph hosts linked → (root h p : ℕ) → root < hosts → parent_of hosts linked root h ≡ Some p → IsParent linked root h p
parent_is hosts linked shape root h p host is = subst (IsParentOf linked root h) is (parent_exact hosts linked shape root h host)

-- a host has no more than one parent
parent_found : (hosts : ℕ) (linked : ℕ → ℕ → Bool) → IsGraph hosts linked → (root h p : ℕ) → root < hosts → IsParent linked root h p
    → parent_of hosts linked root h ≡ Some p
parent_found hosts linked shape root h p host is = go (parent_of hosts linked root h) refl (parent_exact hosts linked shape root h host)
  where
    go : (o : Option ℕ) → parent_of hosts linked root h ≡ o → IsParentOf linked root h o → parent_of hosts linked root h ≡ Some p
    go (Some q) found other =
        let links = least_one linked h root (is.links + 1) (other.links + 1) is.own other.own in
        let same : is.links ≡ other.links = omega (arith, links) in
        let one = is.lowest q other.is_linked (subst (IsLeast linked q root) (sym same) other.near) in
        let two = other.lowest p is.is_linked (subst (IsLeast linked p root) same is.near) in
        let equal : q ≡ p = omega (arith, one, two) in
        found ∙ ap Some equal
    go None found (inl top) =
        let none = is.own.least [] top in
        absurd (omega (arith, none))
    go None found (inr no_walk) = absurd (no_walk is.own.some.walk is.own.some.is_walk)

are_parents : (hosts : ℕ) (linked : ℕ → ℕ → Bool) → IsGraph hosts linked → (root : ℕ) → root < hosts → AreParents linked root (parent_of hosts linked root)
are_parents hosts linked shape root host = record {
  near = λ h p is. (parent_is hosts linked shape root h p host is).is_linked;
  apart = λ h p is same.
      let near = (parent_is hosts linked shape root h p host is).is_linked in
      let no : true ≡ false = sym near ∙ ap (linked h) same ∙ shape.irreflexive h in
      cc;
  top = λ p is. let none = (parent_is hosts linked shape root root p host is).own.least [] refl in omega (arith, none);
}

-- at the beginning nothing is passed on
at_first : (hosts : ℕ) (linked : ℕ → ℕ → Bool) (root : ℕ) (parent : ℕ → Option ℕ) → Holds root parent [] (fresh (tree_rules hosts linked root))
at_first hosts linked root parent = record {
  top = refl;
  sent_is = λ h p is. refl;
  heard = λ h p is. refl;
  few = λ h p is. omega arith;
}

-- in a quiet system each host so far from the root has all of its inputs
all_reached : (hosts : ℕ) (linked : ℕ → ℕ → Bool) → IsGraph hosts linked → (root : ℕ) → root < hosts → (run : List Step) (now : Source (Unit {0}))
    → Holds root (parent_of hosts linked root) run now → IsQuietSystem (tree_rules hosts linked root) now
    → (n h : ℕ) → IsLeast linked h root n → now.outs h ≡ inputs_of root run
all_reached hosts linked shape root host run now holds quiet n h least = go n h least (parent_of hosts linked root h) refl (parent_exact hosts linked shape root h host)
  where
    go : (n h : ℕ) → IsLeast linked h root n → (o : Option ℕ) → parent_of hosts linked root h ≡ o → IsParentOf linked root h o → now.outs h ≡ inputs_of root run
    go n h least None found (inl top) = ap now.outs top ∙ holds.top
    go n h least None found (inr no_walk) = absurd (no_walk least.some.walk least.some.is_walk)
    go zero h least (Some p) found is = absurd (let links = least_one linked h root (is.links + 1) 0 is.own least in omega (arith, links))
    go (suc n) h least (Some p) found is =
        let links = least_one linked h root (is.links + 1) (suc n) is.own least in
        let same : is.links ≡ n = omega (arith, links) in
        let all = quiet.received p h (shape.symmetric p h ∙ is.is_linked) in
        holds.heard h p found
        ∙ ap (λ k. take k (now.sent p h)) all
        ∙ take_all (length (now.sent p h)) (now.sent p h) (omega arith)
        ∙ holds.sent_is h p found
        ∙ go n p (subst (IsLeast linked p root) same is.near) (parent_of hosts linked root p) refl (parent_exact hosts linked shape root p host)

-- what is multicast in every run
pub multicasts_runs : MulticastsRuns
multicasts_runs hosts linked root shape host run is =
    let parent = parent_of hosts linked root in
    let now = after_run (tree_rules hosts linked root) run in
    let holds = kept_by_run (tree_rules hosts linked root) (Holds root (parent_of hosts linked root))
    (tree_kept hosts linked shape root (are_parents hosts linked shape root host)) (at_first hosts linked root (parent_of hosts linked root)) run is in
    record {
      root_is = holds.top;
      fronts = λ h p tree.
          let found = parent_found hosts linked shape root h p host tree in
          let rest = drop (now.received p h) (now.sent p h) in (
            drop ((after_run (tree_rules hosts linked root) run).received p h) ((after_run (tree_rules hosts linked root) run).sent p h),
            ap (λ xs. xs ++ drop ((after_run (tree_rules hosts linked root) run).received p h) ((after_run (tree_rules hosts linked root) run).sent p h)) (holds.heard h p found)
                ∙ take-append-drop ((after_run (tree_rules hosts linked root) run).received p h) ((after_run (tree_rules hosts linked root) run).sent p h)
                ∙ holds.sent_is h p found,
          );
      quiet = λ quiet h walk leads.
          let least = walk_least hosts linked shape h root walk leads in
          all_reached hosts linked shape root host run (after_run (tree_rules hosts linked root) run) holds quiet least.0 h least.1;
    }
