-- What a step that is not refused tells of the system where it stands.
use Rattle.std.proofs.Common.{◌≡◌, ℕ, ◌<◌, ◌==◌, Bool, true, false, not, if◌then◌else◌, List, Option, Some, None, refl}
use Rattle.std.specs.Prelude.{ℤ, nat_lt, slice_get}
use Rattle.std.proofs.lemmas.Bool.{eqb-true, ltb-true, not-false}
use Rattle.nys_source.specs.Rules.{Rules}
use Rattle.nys_source.specs.Source.{Source}
use Rattle.nys_source.specs.Steps.{host_refusal, number_refusal, refusal}
use Rattle.nys_source.specs.declared.step.Step.TheVariants.{Receive}
use Rattle.nys_source.specs.declared.step.NotAStep.{NotAStep}
use Rattle.nys_source.specs.declared.step.NotAStep.TheVariants.{NoHost, Stopped, NotNeighbour, NothingSent}

-- of two refusals neither is there where there is none
neither : {A : Type 0} (b : Bool) (x : A) (o : Option A) → (if b then Some x else o) ≡ None → (b ≡ false) × (o ≡ None)
neither true x o e = cc
neither false x o e = (refl, e)

-- a host that takes a step is one
pub host_is : {S : Type 0} (rules : Rules S) (now : Source S) (h : ℕ) → host_refusal rules now h ≡ None → h < rules.hosts
host_is rules now h e =
    let first = neither (not (nat_lt h rules.hosts)) (NoHost h) (if not (now.running h) then Some (Stopped h) else None) e in
    ltb-true h rules.hosts (not-false (nat_lt h rules.hosts) first.0)

-- what a receive takes
pub record IsReceive {S : Type 0} (rules : Rules S) (now : Source S) (h p k : ℕ) : Type 0 where
  pub host : h < rules.hosts
  pub sender : p < rules.hosts
  pub linked : rules.linked p h ≡ true
  pub payload : List ℤ
  pub here : slice_get (now.sent p h) k ≡ Some payload
  pub next : k ≡ now.received p h

-- the payload of this number
numbered : {S : Type 0} (rules : Rules S) (now : Source S) (h p k : ℕ) (o : Option (List ℤ)) → slice_get (now.sent p h) k ≡ o
    → number_refusal now h p k o ≡ None → h < rules.hosts → p < rules.hosts → rules.linked p h ≡ true → IsReceive rules now h p k
numbered rules now h p k None found e host sender linked = cc
numbered rules now h p k (Some payload) found e host sender linked = go (k == now.received p h) refl
  where
    go : (b : Bool) → (k == now.received p h) ≡ b → IsReceive rules now h p k
    go true same = record {
      host = host;
      sender = sender;
      linked = linked;
      payload = payload;
      here = found;
      next = eqb-true k (now.received p h) same;
    }
    go false other = let no : ◌≡◌ {A = Option NotAStep} (Some (NothingSent p h k)) None = rw other at e in cc

pub receive_is : {S : Type 0} (rules : Rules S) (now : Source S) (h p k : ℕ) → refusal rules now (Receive h p k) ≡ None → IsReceive rules now h p k
receive_is rules now h p k e =
    let number = number_refusal now h p k (slice_get (now.sent p h) k) in
    let linked = if not (rules.linked p h) then Some (NotNeighbour p h) else number in
    let running = if not (now.running h) then Some (Stopped h) else linked in
    let sender = if not (nat_lt p rules.hosts) then Some (NoHost p) else running in
    let first = neither (not (nat_lt h rules.hosts)) (NoHost h) sender e in
    let second = neither (not (nat_lt p rules.hosts)) (NoHost p) running first.1 in
    let third = neither (not (now.running h)) (Stopped h) linked second.1 in
    let fourth = neither (not (rules.linked p h)) (NotNeighbour p h) number third.1 in
    numbered rules now h p k (slice_get (now.sent p h) k) refl fourth.1
    (ltb-true h rules.hosts (not-false (nat_lt h rules.hosts) first.0))
    (ltb-true p rules.hosts (not-false (nat_lt p rules.hosts) second.0))
    (not-false (rules.linked p h) fourth.0)
