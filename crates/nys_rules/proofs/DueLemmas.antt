-- The rule that is due is the first that is enabled.
use Rattle.std.proofs.Common.{◌≡◌, ℕ, zero, suc, ◌+◌, ◌*◌, ◌<◌, ◌⊎◌, Some, None, refl, ap, sym, subst, ◌∙◌, inl, inr, arith}
use Rattle.std.specs.Prelude.{Option, option_map}
use Rattle.std.specs.Option.{option_or}
use Rattle.std.proofs.lemmas.Bool.{cases_lt}
use Rattle.nys_rules.specs.declared.rule.Rule.{Rule}
use Rattle.nys_rules.specs.declared.rule.Rule.TheVariants.{Offer, Order, Certificate, Deliver, Log, Attest}
use Rattle.nys_rules.specs.Rules.{attest_from, attest_rule, due, due_at, due_from, Enabled, to_attest, to_certify, to_deliver, to_log, to_offer, to_order}
use Rattle.nys_rules.specs.Scope.{Scope}
use Rattle.nys_rules.specs.Settling.{DueIsFirst, IsAmongHosts, rank}
use Rattle.nys_rules.specs.View.{View}
use Rattle.nys_rules.proofs.SearchLemmas.{first_from, first_none, first_some, IsFirst, map_some}

-- the host that a rule is about
abbrev pub rule_host : Rule → ℕ
rule_host (Offer h content) = h
rule_host (Order h content) = h
rule_host (Certificate h content) = h
rule_host (Deliver h content) = h
rule_host (Log h content) = h
rule_host (Attest p h k payload) = h

-- the place of a rule among the rules of its host
abbrev pub rule_place : Rule → ℕ
rule_place (Offer h content) = 0
rule_place (Order h content) = 1
rule_place (Certificate h content) = 2
rule_place (Deliver h content) = 3
rule_place (Log h content) = 4
rule_place (Attest p h k payload) = suc (suc (suc (suc (suc p))))

-- the rule of a host at a place, where it is enabled
abbrev pub rule_at : {S : Type 0} → Scope S → View → ℕ → ℕ → Option Rule
rule_at scope v h zero = option_map (Offer h) (to_offer scope v h)
rule_at scope v h (suc zero) = option_map (Order h) (to_order scope v h)
rule_at scope v h (suc (suc zero)) = option_map (Certificate h) (to_certify scope v h)
rule_at scope v h (suc (suc (suc zero))) = option_map (Deliver h) (to_deliver scope v h)
rule_at scope v h (suc (suc (suc (suc zero)))) = option_map (Log h) (to_log scope v h)
rule_at scope v h (suc (suc (suc (suc (suc p))))) = attest_rule scope v h p

-- the attest rules stand behind the others
attest_is : {S : Type 0} (scope : Scope S) (v : View) (h n p : ℕ)
    → attest_from n scope v h p ≡ first_from n (rule_at scope v h) (suc (suc (suc (suc (suc p)))))
attest_is scope v h zero p = refl
attest_is scope v h (suc n) p =
    let next : p + 1 ≡ suc p = omega arith in
    ap (λ q. option_or (attest_rule scope v h p) (attest_from n scope v h q)) next
    ∙ ap (option_or (attest_rule scope v h p)) (attest_is scope v h n (suc p))

-- what is due about a host is its first rule that is enabled
due_at_is : {S : Type 0} (scope : Scope S) (v : View) (h : ℕ)
    → due_at scope v h ≡ first_from 37 (rule_at scope v h) 0
unfolding due_at
due_at_is scope v h =
    ap (λ rest.
    option_or (option_map (Offer h) (to_offer scope v h))
    (option_or (option_map (Order h) (to_order scope v h))
    (option_or (option_map (Certificate h) (to_certify scope v h))
    (option_or (option_map (Deliver h) (to_deliver scope v h))
    (option_or (option_map (Log h) (to_log scope v h)) rest)))))
    (attest_is scope v h 32 0)

-- what is due is what is due about the first host that has something
due_from_is : {S : Type 0} (scope : Scope S) (v : View) (n h : ℕ)
    → due_from n scope v h ≡ first_from n (due_at scope v) h
due_from_is scope v zero h = refl
due_from_is scope v (suc n) h =
    let next : h + 1 ≡ suc h = omega arith in
    ap (λ q. option_or (due_at scope v h) (due_from n scope v q)) next
    ∙ ap (option_or (due_at scope v h)) (due_from_is scope v n (suc h))

-- the same of all hosts
due_is : {S : Type 0} (scope : Scope S) (v : View) → due scope v ≡ first_from 32 (due_at scope v) 0
unfolding due
due_is scope v = due_from_is scope v 32 0

-- an enabled rule stands at its place
enabled_at : {S : Type 0} (scope : Scope S) (v : View) (rule : Rule) → Enabled scope v rule
    → rule_at scope v (rule_host rule) (rule_place rule) ≡ Some rule
enabled_at scope v (Offer h content) e = rw e refl
enabled_at scope v (Order h content) e = rw e refl
enabled_at scope v (Certificate h content) e = rw e refl
enabled_at scope v (Deliver h content) e = rw e refl
enabled_at scope v (Log h content) e = rw e refl
enabled_at scope v (Attest p h k payload) e = rw e refl

-- its place is one of 37
place_below : (rule : Rule) → IsAmongHosts rule → rule_place rule < 37
place_below (Offer h content) e = omega arith
place_below (Order h content) e = omega arith
place_below (Certificate h content) e = omega arith
place_below (Deliver h content) e = omega arith
place_below (Log h content) e = omega arith
place_below (Attest p h k payload) e = omega (arith, e.0)

-- its host is one of 32
host_below : (rule : Rule) → IsAmongHosts rule → rule_host rule < 32
host_below (Offer h content) e = e
host_below (Order h content) e = e
host_below (Certificate h content) e = e
host_below (Deliver h content) e = e
host_below (Log h content) e = e
host_below (Attest p h k payload) e = e.1

-- the order is that of the hosts, then that of the places
rank_is : (rule : Rule) → rank rule ≡ rule_host rule * 64 + rule_place rule
rank_is (Offer h content) = omega arith
rank_is (Order h content) = refl
rank_is (Certificate h content) = refl
rank_is (Deliver h content) = refl
rank_is (Log h content) = refl
rank_is (Attest p h k payload) = omega arith

-- a rule that stands at a place of a host
record Stands {S : Type 0} (scope : Scope S) (v : View) (h place : ℕ) (rule : Rule) : Type 0 where
  host : rule_host rule ≡ h
  at : rule_place rule ≡ place
  hosts : IsAmongHosts rule
  enabled : Enabled scope v rule

-- it is enabled
stands_at : {S : Type 0} (scope : Scope S) (v : View) (h place : ℕ) (rule : Rule) → h < 32 → place < 37
    → rule_at scope v h place ≡ Some rule → Stands scope v h place rule
stands_at scope v h zero rule low few e =
    let x = map_some (Offer h) (to_offer scope v h) rule e in
    subst (Stands scope v h 0) x.2 (record { host = refl; at = refl; hosts = low; enabled = x.1 })
stands_at scope v h (suc zero) rule low few e =
    let x = map_some (Order h) (to_order scope v h) rule e in
    subst (Stands scope v h 1) x.2 (record { host = refl; at = refl; hosts = low; enabled = x.1 })
stands_at scope v h (suc (suc zero)) rule low few e =
    let x = map_some (Certificate h) (to_certify scope v h) rule e in
    subst (Stands scope v h 2) x.2 (record { host = refl; at = refl; hosts = low; enabled = x.1 })
stands_at scope v h (suc (suc (suc zero))) rule low few e =
    let x = map_some (Deliver h) (to_deliver scope v h) rule e in
    subst (Stands scope v h 3) x.2 (record { host = refl; at = refl; hosts = low; enabled = x.1 })
stands_at scope v h (suc (suc (suc (suc zero)))) rule low few e =
    let x = map_some (Log h) (to_log scope v h) rule e in
    subst (Stands scope v h 4) x.2 (record { host = refl; at = refl; hosts = low; enabled = x.1 })
stands_at scope v h (suc (suc (suc (suc (suc p))))) rule low few e =
    let x = map_some (λ y. Attest p h y.0 y.1) (to_attest scope v p h) rule e in
    subst (Stands scope v h (suc (suc (suc (suc (suc p)))))) x.2
    (record { host = refl; at = refl; hosts = (omega (arith, few), low); enabled = x.1 })

-- a rule before another is about an earlier host, or stands at an earlier place of the same host
earlier : (a b c d : ℕ) → b < 64 → d < 64 → a * 64 + b < c * 64 + d → (a < c) ⊎ ((a ≡ c) × (b < d))
earlier a b c d few many before = elim (cases_lt a c) [
  | inl less ↦ inl less
  | inr more ↦ inr (omega (arith, before, few, many, more), omega (arith, before, few, many, more))
]

-- where a place has nothing no rule stands there
pub not_enabled : {S : Type 0} (scope : Scope S) (v : View) (rule : Rule)
    → rule_at scope v (rule_host rule) (rule_place rule) ≡ None → Enabled scope v rule → ⊥
not_enabled scope v rule none enabled = let both = sym (enabled_at scope v rule enabled) ∙ none in absurd (cc)

-- where nothing is due about a host none of its rules is enabled
pub host_quiet : {S : Type 0} (scope : Scope S) (v : View) (rule : Rule) → IsAmongHosts rule
    → due_at scope v (rule_host rule) ≡ None → Enabled scope v rule → ⊥
host_quiet scope v rule hosts none =
    not_enabled scope v rule
    (first_none 37 (rule_at scope v (rule_host rule)) 0 (sym (due_at_is scope v (rule_host rule)) ∙ none)
    (rule_place rule) (omega arith) (place_below rule hosts))

-- where nothing is due nothing is enabled
pub none_enabled : {S : Type 0} (scope : Scope S) (v : View) → due scope v ≡ None → (rule : Rule)
    → IsAmongHosts rule → Enabled scope v rule → ⊥
none_enabled scope v none rule hosts =
    host_quiet scope v rule hosts
    (first_none 32 (due_at scope v) 0 (sym (due_is scope v) ∙ none) (rule_host rule) (omega arith) (host_below rule hosts))

-- a rule that is due
record IsDue {S : Type 0} (scope : Scope S) (v : View) (rule : Rule) : Type 0 where
  hosts : IsAmongHosts rule
  enabled : Enabled scope v rule
  first : (other : Rule) → IsAmongHosts other → rank other < rank rule → Enabled scope v other → ⊥

-- the first place of the first host
is_due : {S : Type 0} (scope : Scope S) (v : View) (rule : Rule) (host : IsFirst 32 (due_at scope v) 0 rule)
    → IsFirst 37 (rule_at scope v host.place) 0 rule → IsDue scope v rule
is_due scope v rule host place =
    let stands = stands_at scope v host.place place.place rule (omega (arith, host.to)) (omega (arith, place.to)) place.here in
    record {
      hosts = stands.hosts;
      enabled = stands.enabled;
      first = λ other hosts before. elim (earlier (rule_host other) (rule_place other) host.place place.place
          (omega (arith, place_below other hosts)) (omega (arith, place.to))
          (omega (arith, before, rank_is other, rank_is rule, stands.host, stands.at))) [
            | inl less ↦ host_quiet scope v other hosts (host.none_before (rule_host other) (omega arith) less)
            | inr same ↦ not_enabled scope v other
                (ap (λ h. rule_at scope v h (rule_place other)) same.0 ∙ place.none_before (rule_place other) (omega arith) same.1)
          ];
    }

-- what is due is so
due_is_first : {S : Type 0} (scope : Scope S) (v : View) (rule : Rule) → due scope v ≡ Some rule
    → IsDue scope v rule
due_is_first scope v rule e =
    let host = first_some 32 (due_at scope v) 0 rule (sym (due_is scope v) ∙ e) in
    is_due scope v rule host
    (first_some 37 (rule_at scope v host.place) 0 rule (sym (due_at_is scope v host.place) ∙ host.here))

-- a rule that is due is enabled, and about hosts
pub due_enabled : {S : Type 0} (scope : Scope S) (v : View) (rule : Rule) → due scope v ≡ Some rule
    → IsAmongHosts rule × Enabled scope v rule
due_enabled scope v rule e = let d = due_is_first scope v rule e in (d.hosts, d.enabled)

-- nothing before a rule that is due is enabled
pub due_first : {S : Type 0} (scope : Scope S) (v : View) (rule : Rule) → due scope v ≡ Some rule
    → (other : Rule)
    → IsAmongHosts other → rank other < rank rule → Enabled scope v other → ⊥
due_first scope v rule e = (due_is_first scope v rule e).first

-- the law
pub due_law : {S : Type 0} (scope : Scope S) → DueIsFirst scope
due_law scope = record { none = none_enabled scope; some = due_enabled scope; first = due_first scope }

-- what nothing is is not there
not_some : {A : Type 0} (o : Option A) → ((x : A) → o ≡ Some x → ⊥) → o ≡ None
not_some None no_one = refl
not_some (Some x) no_one = absurd (no_one x refl)

-- where nothing is due a host makes no offer
pub quiet_offer : {S : Type 0} (scope : Scope S) (v : View) (h : ℕ) → due scope v ≡ None → h < 32 → to_offer scope v h ≡ None
quiet_offer scope v h none low = not_some (to_offer scope v h) (λ c. none_enabled scope v none (Offer h c) low)

-- no guard orders
pub quiet_order : {S : Type 0} (scope : Scope S) (v : View) (h : ℕ) → due scope v ≡ None → h < 32 → to_order scope v h ≡ None
quiet_order scope v h none low = not_some (to_order scope v h) (λ c. none_enabled scope v none (Order h c) low)

-- no host certifies
pub quiet_certify : {S : Type 0} (scope : Scope S) (v : View) (h : ℕ) → due scope v ≡ None → h < 32 → to_certify scope v h ≡ None
quiet_certify scope v h none low = not_some (to_certify scope v h) (λ c. none_enabled scope v none (Certificate h c) low)

-- no guard votes to deliver
pub quiet_deliver : {S : Type 0} (scope : Scope S) (v : View) (h : ℕ) → due scope v ≡ None → h < 32 → to_deliver scope v h ≡ None
quiet_deliver scope v h none low = not_some (to_deliver scope v h) (λ c. none_enabled scope v none (Deliver h c) low)

-- no guard logs
pub quiet_log : {S : Type 0} (scope : Scope S) (v : View) (h : ℕ) → due scope v ≡ None → h < 32 → to_log scope v h ≡ None
quiet_log scope v h none low = not_some (to_log scope v h) (λ c. none_enabled scope v none (Log h c) low)

-- no guard attests
pub quiet_attest : {S : Type 0} (scope : Scope S) (v : View) (p h : ℕ) → due scope v ≡ None → p < 32 → h < 32
    → to_attest scope v p h ≡ None
quiet_attest scope v p h none low below =
    not_some (to_attest scope v p h)
    (λ x e. none_enabled scope v none (Attest p h x.0 x.1) (low, below) e)
