-- What is due, one host and one link after another.
use Rattle.std.proofs.Common.{◌≡◌, ℕ, zero, suc, ◌+◌, ◌-◌, ◌<◌, ◌≤◌, ◌&&◌, Bool, true, false, [], refl, ap, sym, ◌∙◌, arith}
use Rattle.nys_hosts.specs.Masks.{in_mask}
use Rattle.nys_node.specs.Masks.{HasNone, IsNext}
use Rattle.std.specs.Prelude.{Option, Some, None, option_map, not}
use Rattle.std.specs.Option.{option_or}
use Rattle.nys_node.specs.Dues.{hosts_due, links_due}
use Rattle.nys_rules.specs.declared.kept.Attested.{Attested}
use Rattle.nys_rules.specs.declared.rule.Rule.TheVariants.{Offer, Order, Certificate, Deliver, Log}
use Rattle.nys_rules.specs.Rules.{attest_from, attest_rule, due, due_at, due_from, only_if, to_attest, to_certify, to_deliver, to_log, to_offer, to_order, unattested}
use Rattle.nys_rules.specs.Scope.{Scope}
use Rattle.nys_rules.specs.View.{has_reached, is_attesting, is_live, sent_to, View}

-- where nothing was sent nothing is to be attested
pub none_unattested : (range : Option Attested) → None ≡ unattested [] range
none_unattested None = refl
none_unattested (Some range) = refl

-- the fourth of five tests fails
dead_test : (w l a d r : Bool) → d ≡ false → (w && ((l && (a && d)) && r)) ≡ false
dead_test false l a d r e = refl
dead_test true false a d r e = refl
dead_test true true false d r e = refl
dead_test true true true d r e = rw e refl

-- a link into a host that isn't live is not attested
dead_link : {S : Type 0} (scope : Scope S) (v : View) (h p : ℕ) → is_live scope v h ≡ false → to_attest scope v p h ≡ None
unfolding to_attest is_attesting
dead_link scope v h p dead =
    ap (λ b. only_if b (unattested (sent_to scope v p h) (v.attested p h)))
    (dead_test (not v.wedged) (scope.rules.linked p h) (is_live scope v p) (is_live scope v h) (has_reached v p && has_reached v h) dead)

-- no link into a host that isn't live is due
dead_from : {S : Type 0} (scope : Scope S) (v : View) (h n p : ℕ) → is_live scope v h ≡ false → None ≡ attest_from n scope v h p
dead_from scope v h zero p dead = refl
dead_from scope v h (suc n) p dead = rw (dead_link scope v h p dead) (dead_from scope v h n (p + 1) dead)

-- the same of all links
pub dead_links : {S : Type 0} (scope : Scope S) (v : View) (h : ℕ) → is_live scope v h ≡ false → None ≡ links_due scope v h 0
unfolding links_due
dead_links scope v h dead = dead_from scope v h 32 0 dead

-- what is due of the links from p on is what is due of p, else of those behind it
pub links_next : {S : Type 0} (scope : Scope S) (v : View) (h p : ℕ) → p < 32
    → links_due scope v h p ≡ option_or (attest_rule scope v h p) (links_due scope v h (p + 1))
unfolding links_due
links_next scope v h p below =
    let more : 32 - p ≡ suc (32 - (p + 1)) = omega (arith, below) in
    ap (λ n. attest_from n scope v h p) more

-- behind the last sender there is none
pub links_end : {S : Type 0} (scope : Scope S) (v : View) (h : ℕ) → None ≡ links_due scope v h 32
unfolding links_due
links_end scope v h = refl

-- the second of five tests fails
unlinked_test : (w l a d r : Bool) → l ≡ false → (w && ((l && (a && d)) && r)) ≡ false
unlinked_test false l a d r e = refl
unlinked_test true l a d r e = rw e refl

-- a link between hosts that aren't neighbours is never attested
unlinked : {S : Type 0} (scope : Scope S) (v : View) (h p : ℕ) → scope.rules.linked p h ≡ false → to_attest scope v p h ≡ None
unfolding to_attest is_attesting
unlinked scope v h p none =
    ap (λ b. only_if b (unattested (sent_to scope v p h) (v.attested p h)))
    (unlinked_test (not v.wedged) (scope.rules.linked p h) (is_live scope v p) (is_live scope v h) (has_reached v p && has_reached v h) none)

-- what is due of the links from a host on that is no neighbour is what is due of those behind it
skip_one : {S : Type 0} (scope : Scope S) (v : View) (h p : ℕ) → p < 32 → scope.rules.linked p h ≡ false
    → links_due scope v h p ≡ links_due scope v h (p + 1)
skip_one scope v h p below none = links_next scope v h p below ∙ rw (unlinked scope v h p none) refl

-- the same of k hosts one after another
skip_links : {S : Type 0} (scope : Scope S) (v : View) (h k p : ℕ) → p + k ≤ 32
    → ((q : ℕ) → p ≤ q → q < p + k → scope.rules.linked q h ≡ false)
    → links_due scope v h p ≡ links_due scope v h (p + k)
skip_links scope v h zero p below none =
    let same : p ≡ p + 0 = omega arith in
    ap (links_due scope v h) same
skip_links scope v h (suc k) p below none =
    let place : p + 1 + k ≡ p + suc k = omega arith in
    skip_one scope v h p (omega (arith, below)) (none p (omega arith) (omega arith))
    ∙ skip_links scope v h k (p + 1) (omega (arith, below)) (λ q above under. none q (omega (arith, above)) (omega (arith, under)))
    ∙ ap (links_due scope v h) place

-- what is due of the links from one host on is what is due from the next neighbour on
pub next_links : {S : Type 0} (scope : Scope S) (v : View) (mask h from p : ℕ)
    → ((q : ℕ) → in_mask mask q ≡ scope.rules.linked q h) → IsNext mask from p
    → links_due scope v h from ≡ links_due scope v h p
next_links scope v mask h from p senders next =
    let place : from + (p - from) ≡ p = omega (arith, next.above) in
    skip_links scope v h (p - from) from (omega (arith, next.above, next.host))
    (λ q above under. sym (senders q) ∙ next.first q above (omega (arith, under, next.above)))
    ∙ ap (links_due scope v h) place

-- where no neighbour is left none is due
pub no_links : {S : Type 0} (scope : Scope S) (v : View) (mask h from : ℕ) → from ≤ 32
    → ((q : ℕ) → in_mask mask q ≡ scope.rules.linked q h) → HasNone mask from
    → None ≡ links_due scope v h from
no_links scope v mask h from below senders none =
    let place : 32 ≡ from + (32 - from) = omega (arith, below) in
    links_end scope v h ∙ ap (links_due scope v h) place
    ∙ sym (skip_links scope v h (32 - from) from (omega (arith, below)) (λ q above under. sym (senders q) ∙ none q above))

-- what is due of the hosts from h on is what is due of h, else of those behind it
pub hosts_next : {S : Type 0} (scope : Scope S) (v : View) (h : ℕ) → h < 32
    → hosts_due scope v h ≡ option_or (due_at scope v h) (hosts_due scope v (h + 1))
unfolding hosts_due
hosts_next scope v h below =
    let more : 32 - h ≡ suc (32 - (h + 1)) = omega (arith, below) in
    ap (λ n. due_from n scope v h) more

-- behind the last host nothing is due
pub hosts_end : {S : Type 0} (scope : Scope S) (v : View) → None ≡ hosts_due scope v 32
unfolding hosts_due
hosts_end scope v = refl

-- what is due from the first host on is due
pub hosts_all : {S : Type 0} (scope : Scope S) (v : View) → hosts_due scope v 0 ≡ due scope v
unfolding hosts_due due
hosts_all scope v = refl

-- what is found first is the first
pub found_first : {A : Type 0} (x : A) (here rest all : Option A) → Some x ≡ here → option_or here rest ≡ all → Some x ≡ all
found_first x here rest all is same = ap (λ o. option_or o rest) is ∙ same

-- where nothing is found the rest is looked at
pub found_later : {A : Type 0} (here rest all : Option A) → None ≡ here → option_or here rest ≡ all → rest ≡ all
found_later here rest all is same = ap (λ o. option_or o rest) is ∙ same

-- the rules of a host, in their order, with what is due of links
pub due_at_links : {S : Type 0} (scope : Scope S) (v : View) (h : ℕ)
    → option_or (option_map (Offer h) (to_offer scope v h))
    (option_or (option_map (Order h) (to_order scope v h))
    (option_or (option_map (Certificate h) (to_certify scope v h))
    (option_or (option_map (Deliver h) (to_deliver scope v h))
    (option_or (option_map (Log h) (to_log scope v h))
    (links_due scope v h 0)))))
    ≡ due_at scope v h
unfolding due_at links_due
due_at_links scope v h = refl

-- an option whose mapped value is known
mapped_some : {A B : Type 0} (f : A → B) (o : Option A) (x : A) → Some x ≡ o → Some (f x) ≡ option_map f o
mapped_some f o x is = ap (option_map f) is

-- an option that has nothing maps to nothing
mapped_none : {A B : Type 0} (f : A → B) (o : Option A) → None ≡ o → None ≡ option_map f o
mapped_none f o is = ap (option_map f) is

-- a rule that has something to do comes first
pub due_here : {A B : Type 0} (f : A → B) (x : A) (here : Option A) (rest all : Option B) → Some x ≡ here
    → option_or (option_map f here) rest ≡ all → Some (f x) ≡ all
due_here f x here rest all is same = found_first (f x) (option_map f here) rest all (mapped_some f here x is) same

-- where it has nothing the rest is looked at
pub due_later : {A B : Type 0} (f : A → B) (here : Option A) (rest all : Option B) → None ≡ here
    → option_or (option_map f here) rest ≡ all → rest ≡ all
due_later f here rest all is same = found_later (option_map f here) rest all (mapped_none f here is) same
