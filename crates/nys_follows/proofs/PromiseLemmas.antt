-- What a world has in common with the machine's assembly that it follows: logs, what hosts take, and who is
-- honest.
use Rattle.std.proofs.Common.{◌≡◌, ℕ, ◌<◌, ◌≤◌, ◌⊎◌, Bool, true, false, List, length, filter, Some, refl, ap, sym, subst, ◌∙◌, inl, inr, arith, length-append}
use Rattle.std.specs.Prelude.{Option}
use Rattle.std.proofs.lemmas.Bool.{cases_order}
use Rattle.nys_bytes.specs.declared.content.Content.{Content}
use Rattle.nys_source.specs.Contents.{contents_taken}
use Rattle.nys_source.specs.Runs.{after_run, IsRun}
use Rattle.nys_source.specs.Source.{fresh}
use Rattle.nys_source.specs.declared.step.Step.{Step}
use Rattle.nys_agreement.specs.Claims.{Always, IsPrefixOf}
use Rattle.nys_agreement.specs.Net.{Net}
use Rattle.nys_agreement.specs.Assembly as machine
use Rattle.nys_agreement.proofs.ListLemmas.{in_prefix, prefix_from}
use Rattle.nys_agreement.proofs.Spelling.{Kept}
use Rattle.nys_agreement.proofs.Truth.{decided_prefix, log_prefix}
use Rattle.nys_rules.specs.Olympus.{hosts_of}
use Rattle.nys_rules.specs.Premises.{net_of}
use Rattle.nys_rules.specs.Spelling.{printed_run}
use Rattle.nys_rules.specs.World.{is_honest, Setting, World}
use Rattle.nys_laws.proofs.LiveLemmas.{honest_host}
use Rattle.nys_follows.specs.Follows.{FollowsMachine, IsTruthful, Reached}
use Rattle.nys_follows.specs.Promises.{AreOfOne, IsHonestHost}
use Rattle.nys_follows.specs.Scenario.{IsScenario}
use Rattle.nys_follows.proofs.FeedingFollows.{truthful_of}
use Rattle.nys_follows.proofs.FeedingWorlds.{followable_of, low_or_not}
use Rattle.nys_follows.proofs.LeadingLemmas.{kept_there}
use Rattle.nys_follows.proofs.StopLemmas.{run_behind, stops_allowed, taken_with_stops}

-- what the machine promises holds of a world of it that is reached
pub promised : {S : Type 0} (setting : Setting S) → IsScenario setting → (P : Net → machine.Assembly → Type 0)
    → Always setting.scope.rules P → (m : machine.Assembly) → Reached setting m → P (net_of setting) m
promised setting asked P always m r =
    subst (P (net_of setting)) (sym r.is)
    (always (net_of setting) (followable_of setting asked).few r.events r.follows)

-- what the machine keeps there
pub machine_keeps : {S : Type 0} (setting : Setting S) → IsScenario setting → (w : World) (f : FollowsMachine setting w)
    → Kept setting.scope.rules (net_of setting) f.machine
machine_keeps setting asked w f = kept_there setting (followable_of setting asked) f.machine f.reached

-- a host that doesn't lie
pub truthful_host : {S : Type 0} (setting : Setting S) → IsScenario setting → (g : ℕ) → g < setting.scope.rules.hosts
    → is_honest setting g ≡ true → IsTruthful setting g
truthful_host setting asked g low honest =
    truthful_of setting g (λ same. let few = asked.hosts in omega (arith, low, few, same)) honest

-- is honest
pub honest_one : {S : Type 0} (setting : Setting S) (g : ℕ) → IsTruthful setting g → IsHonestHost setting g
honest_one setting g t = record { host = t.host; honest = honest_host setting g t.host t.honest }

-- a party is a host that doesn't lie, or it isn't
pub truthful_or_not : {S : Type 0} (setting : Setting S) (g : ℕ)
    → IsTruthful setting g ⊎ (IsTruthful setting g → ⊥)
truthful_or_not {S} setting g = elim (low_or_not g setting.scope.rules.hosts) [
  | inl low ↦ by low (setting.liars g) refl
  | inr high ↦ inr (λ t. let low = t.host in omega (arith, high, low))
]
  where
    by : g < setting.scope.rules.hosts → (b : Bool) → setting.liars g ≡ b
        → IsTruthful setting g ⊎ (IsTruthful setting g → ⊥)
    by low false is = inl (record { host = low; honest = is })
    by low true is = inr (λ t. let honest = t.honest in cc)

-- a prefix is no longer
pub no_longer : {A : Type 0} (xs ys : List A) → IsPrefixOf xs ys → length xs ≤ length ys
no_longer xs ys pre = let a = length-append xs pre.0 in let b = ap length pre.1 in omega (arith, a, b)

-- of two prefixes of one list one is a prefix of the other
pub of_one : {A : Type 0} (xs ys all : List A) → IsPrefixOf xs all → IsPrefixOf ys all → AreOfOne xs ys
of_one {A} xs ys all one other = elim (cases_order (length xs) (length ys)) [
  | inl same ↦ inl (shorter xs ys one other (omega (arith, same)))
  | inr (inl lt) ↦ inl (shorter xs ys one other (omega (arith, lt)))
  | inr (inr gt) ↦ inr (shorter ys xs other one (omega (arith, gt)))
]
  where
    shorter : (xs ys : List A) → IsPrefixOf xs all → IsPrefixOf ys all → length xs ≤ length ys → IsPrefixOf xs ys
    shorter xs ys one other le = prefix_from xs ys le
        (λ i x y here there.
        let a = in_prefix xs all one i x here in
        let b = in_prefix ys all other i y there in
        let same : ◌≡◌ {A = Option A} (Some x) (Some y) = sym a ∙ b in cc)

-- the machine has the log that the node of an honest host has
pub log_there : {S : Type 0} (setting : Setting S) (w : World) (f : FollowsMachine setting w) (g h : ℕ)
    → IsTruthful setting g → f.machine.log g h ≡ (w.nodes g).logs h
log_there setting w f g h t = (f.tracks.nodes.each g t).log_is h

-- each host takes in the printed run the longest log that the machine has of it
pub taken_is : {S : Type 0} (setting : Setting S) → IsScenario setting → (w : World) (f : FollowsMachine setting w) (h : ℕ)
    → contents_taken setting.scope.rules (printed_run setting.scope w) h ≡ f.machine.longest h
unfolding printed_run
taken_is setting asked w f h =
    taken_with_stops setting.scope.rules (fresh setting.scope.rules) h w.run
    (filter w.olympus.retired (hosts_of setting.scope))
    ∙ (ap (λ (r : List Step). contents_taken setting.scope.rules r h) (sym f.tracks.run.run_is)
    ∙ (machine_keeps setting asked w f).truth.run_ok.taken h)

-- the printed run is a run of the source system
pub printed_is_run : {S : Type 0} (setting : Setting S) → IsScenario setting → (w : World)
    → FollowsMachine setting w → IsRun setting.scope.rules (printed_run setting.scope w)
unfolding printed_run
printed_is_run setting asked w f =
    let rules = setting.scope.rules in
    let ok = (machine_keeps setting asked w f).truth.run_ok in
    run_behind rules (fresh rules) w.run _ (subst (IsRun rules) f.tracks.run.run_is ok.is_run)
    (stops_allowed rules w.olympus.retired rules.hosts 0 (after_run rules w.run) (omega arith)
    (λ h low.
    subst (λ (r : List Step). (after_run rules r).running h ≡ true) f.tracks.run.run_is (ok.runs h)))

-- each log that the node of an honest host has is a prefix of what its host takes
pub log_taken : {S : Type 0} (setting : Setting S) → IsScenario setting → (w : World) (f : FollowsMachine setting w)
    → (g h : ℕ) → IsTruthful setting g
    → IsPrefixOf ((w.nodes g).logs h) (contents_taken setting.scope.rules (printed_run setting.scope w) h)
log_taken setting asked w f g h t =
    subst (IsPrefixOf ((w.nodes g).logs h)) (sym (taken_is setting asked w f h))
    (subst (λ (l : List Content). IsPrefixOf l (f.machine.longest h)) (log_there setting w f g h t)
    (log_prefix (net_of setting) f.machine (machine_keeps setting asked w f).sound g h))

-- so is each decided log
pub decided_taken : {S : Type 0} (setting : Setting S) → IsScenario setting → (w : World) → FollowsMachine setting w
    → (h : ℕ)
    → IsPrefixOf (w.olympus.decided h) (contents_taken setting.scope.rules (printed_run setting.scope w) h)
decided_taken setting asked w f h =
    subst (IsPrefixOf (w.olympus.decided h)) (sym (taken_is setting asked w f h))
    (subst (λ (l : List Content). IsPrefixOf l (f.machine.longest h)) (f.tracks.top.decided_is h)
    (decided_prefix (net_of setting) f.machine (machine_keeps setting asked w f).sound h))
