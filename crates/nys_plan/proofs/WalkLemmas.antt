-- Walks, and sets of hosts that grow along links.
use Rattle.std.proofs.Common.{◌≡◌, ℕ, zero, suc, ◌<◌, ◌≤◌, ◌⊎◌, Bool, true, false, ◌==◌, ◌&&◌, ◌||◌, nat_lt, refl, sym, ap, subst, ◌∙◌, inl, inr, arith}
use Rattle.std.proofs.lemmas.Bool.{eqb-true, ltb-true, lt-ltb}
use Rattle.nys_hosts.specs.Counts.{hosts_with}
use Rattle.nys_hosts.proofs.CountLemmas.{count_below-one, hosts_with-more, hosts_with-some, hosts_with-within}
use Rattle.nys_graph.specs.Links.{IsGraph}
use Rattle.nys_plan.specs.Walks.{IsReached, touches, Walks}

-- a walk from a neighbour is a walk with one link more
pub walk_before : (linked : ℕ → ℕ → Bool) (n z a b : ℕ) → linked z a ≡ true → Walks linked n a b
    → Walks linked (suc n) z b
walk_before linked zero z a b link here = (z, refl, subst (λ x. linked z x ≡ true) here link)
walk_before linked (suc n) z a b link walk = (
  walk.0,
  walk_before linked n z a walk.0 link walk.1,
  walk.2,
)

-- what a neighbour reaches is reached
pub reached_before : (linked : ℕ → ℕ → Bool) (z a b : ℕ) → linked z a ≡ true → IsReached linked a b
    → IsReached linked z b
reached_before linked z a b link r = record
    { links = suc r.links; walk = walk_before linked r.links z a b link r.walk }

-- a neighbour of what is reached is reached
pub reached_after : (linked : ℕ → ℕ → Bool) (a b c : ℕ) → IsReached linked a b → linked b c ≡ true
    → IsReached linked a c
reached_after linked a b c r link = record { links = suc r.links; walk = (b, r.walk, link) }

-- each host reaches itself
pub reached_self : (linked : ℕ → ℕ → Bool) (a : ℕ) → IsReached linked a a
reached_self linked a = record { links = 0; walk = refl }

-- a set that has the neighbours of its hosts has all that they reach
pub closed_reaches : (linked : ℕ → ℕ → Bool) (set : ℕ → Bool)
    → ((p g : ℕ) → set p ≡ true → linked p g ≡ true → set g ≡ true)
    → (h : ℕ) → set h ≡ true → (n g : ℕ) → Walks linked n h g → set g ≡ true
closed_reaches linked set closed h has zero g here = subst (λ x. set x ≡ true) here has
closed_reaches linked set closed h has (suc n) g walk = closed walk.0 g
    (closed_reaches linked set closed h has n walk.0 walk.1) walk.2

-- both hold
pub both : (x y : Bool) → (x && y) ≡ true → (x ≡ true) × (y ≡ true)
both true true e = (refl, refl)
both true false e = absurd (cc)
both false y e = absurd (cc)

-- one of two holds
pub either : (x y : Bool) → (x || y) ≡ true → (x ≡ true) ⊎ (y ≡ true)
either true y e = inl refl
either false y e = inr e

-- a host that a set touches has a neighbour in it
pub touches_some : (linked : ℕ → ℕ → Bool) (set : ℕ → Bool) (g : ℕ) → touches linked set g ≡ true
    → (p : ℕ) × (linked g p ≡ true) × (set p ≡ true)
unfolding touches
touches_some linked set g e =
    let p = hosts_with-some (λ p. linked g p && set p)
    (ltb-true 0 (hosts_with (λ p. linked g p && set p)) e) in
    let each = both (linked g p.0) (set p.0) p.2 in
    (p.0, each.0, each.1)

-- one host is counted once
one_host : (p : ℕ) → p < 32 → hosts_with (λ h. p == h) ≡ 1
unfolding hosts_with
one_host p below = count_below-one p 32 below

-- a host with a neighbour in a set is touched by it
pub touches_from : (linked : ℕ → ℕ → Bool) (set : ℕ → Bool) (g p : ℕ) → p < 32 → linked g p ≡ true
    → set p ≡ true
    → touches linked set g ≡ true
unfolding touches
touches_from linked set g p below link has =
    lt-ltb 0 (hosts_with (λ h. linked g h && set h))
    (omega (
      arith,
      one_host p below,
      hosts_with-within (λ h. p == h) (λ h. linked g h && set h)
          (λ h under same. here h (eqb-true p h same)),
    ))
  where
    here : (h : ℕ) → p ≡ h → (linked g h && set h) ≡ true
    here h e = subst (λ x. (linked g x && set x) ≡ true) e (rw (link, has) refl)

-- a set within one that has no more hosts is that one
pub within_full : (a b : ℕ → Bool) → ((h : ℕ) → a h ≡ true → b h ≡ true)
    → hosts_with b ≤ hosts_with a
    → (g : ℕ) → g < 32 → b g ≡ true → a g ≡ true
within_full a b within full g below has = go (a g) refl
  where
    sub : (h : ℕ) → h < 32 → ((g == h) || a h) ≡ true → b h ≡ true
    sub h under e = elim (either (g == h) (a h) e) [
      | inl same ↦ subst (λ x. b x ≡ true) (eqb-true g h same) has
      | inr old ↦ within h old
    ]

    go : (x : Bool) → a g ≡ x → a g ≡ true
    go true e = e
    go false e = absurd (omega (
      arith,
      hosts_with-more a g below e,
      hosts_with-within
          (λ h. (g == h) || a h) b sub,
    ))

-- what spreading adds, by the equation of `spread`
abbrev pub Spreads : ℕ → (ℕ → ℕ → Bool) → (ℕ → Bool) → (ℕ → Bool) → Type 0
Spreads hosts linked set wider = (g : ℕ) → wider g ≡
    (set g || (nat_lt g hosts && touches linked set g))

-- spreading keeps what was there
pub spread_keeps : (hosts : ℕ) (linked : ℕ → ℕ → Bool) (set wider : ℕ → Bool)
    → Spreads hosts linked set wider
    → (g : ℕ) → set g ≡ true → wider g ≡ true
spread_keeps hosts linked set wider spreads g has = spreads g
    ∙ ap (λ x. x || (nat_lt g hosts && touches linked set g)) has

-- what spreading reaches is reached
pub spread_sound : (hosts : ℕ) (linked : ℕ → ℕ → Bool) (set wider : ℕ → Bool) (h : ℕ)
    → IsGraph hosts linked → Spreads hosts linked set wider
    → ((g : ℕ) → set g ≡ true → IsReached linked h g) → (g : ℕ) → wider g ≡ true
    → IsReached linked h g
spread_sound hosts linked set wider h graph spreads sound g has =
    elim (either (set g) (nat_lt g hosts && touches linked set g) (sym (spreads g) ∙ has)) [
      | inl old ↦ sound g old
      | inr new ↦
          let p = touches_some linked set g (both (nat_lt g hosts) (touches linked set g) new).1 in
          reached_after linked h p.0 g (sound p.0 p.2) (graph.symmetric p.0 g ∙ p.1)
    ]

-- where spreading adds nothing the set has the neighbours of its hosts
pub spread_closed : (hosts : ℕ) (linked : ℕ → ℕ → Bool) (set wider : ℕ → Bool)
    → IsGraph hosts linked → Spreads hosts linked set wider
    → hosts_with wider ≤ hosts_with set → (p g : ℕ) → set p ≡ true → linked p g ≡ true
    → set g ≡ true
spread_closed hosts linked set wider graph spreads full p g has link =
    let in_graph = graph.within p g link in
    let touched = touches_from linked set g p (omega (arith, graph.few, in_graph.0))
    (graph.symmetric g p ∙ link) has in
    let new : wider g ≡ true = spreads g ∙ rw (lt-ltb g hosts in_graph.1, touched)
    (or_true (set g)) in
    within_full set wider (spread_keeps hosts linked set wider spreads) full g
    (omega (arith, graph.few, in_graph.1)) new
  where
    or_true : (x : Bool) → (x || true) ≡ true
    or_true true = refl
    or_true false = refl
