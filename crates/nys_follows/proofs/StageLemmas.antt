-- A node in the middle of what it does, while the machine has all that it did so far.
use Rattle.std.proofs.Common.{◌≡◌, ◌≢◌, ℕ, ◌<◌, ◌≤◌, ◌&&◌, Bool, true, false, not, List, [], ◌∷◌, length, refl, ap, sym, subst, ◌∙◌, arith, leb-true}
use Rattle.std.specs.Prelude.{nat_lt}
use Rattle.std.proofs.lemmas.Bool.Decides.{Decides-ltb}
use Rattle.nys_source.specs.Tables.{put}
use Rattle.nys_agreement.specs.Said.{Said}
use Rattle.nys_agreement.specs.Assembly as machine
use Rattle.nys_agreement.specs.Events.{IsOpen}
use Rattle.nys_agreement.specs.Events.Event.{Says}
use Rattle.nys_agreement.specs.After.{after}
use Rattle.nys_agreement.proofs.TableLemmas.{put_case}
use Rattle.nys_rules.specs.Forged.{Entry, with_made}
use Rattle.nys_rules.specs.Olympus.{OlympusView}
use Rattle.nys_rules.specs.Premises.{net_of}
use Rattle.nys_rules.specs.Scope.{olympus}
use Rattle.nys_rules.specs.View.{has_reached, is_live, is_open, length_of, View}
use Rattle.nys_rules.specs.World.{Setting, World}
use Rattle.nys_rules.proofs.CertificateLemmas.{both_true}
use Rattle.nys_follows.specs.Follows.{AreNodes, IsFollowable, IsLedger, IsNode, IsOlympus, IsRunOf, IsTruthful, part_of, statement_of}
use Rattle.nys_follows.proofs.TellingLemmas.{ledger_same, ledger_says}

-- the node that acts, and what stands still meanwhile: the views of all nodes before, and the Olympus
pub record Scene {S : Type 0} (setting : Setting S) : Type 0 where
  pub may : IsFollowable setting
  pub nodes : ℕ → View
  pub top : OlympusView
  pub actor : ℕ
  pub truthful : IsTruthful setting actor

-- the machine has it where its view is this, the ledger this, and the run that of a world
pub record Stage {S : Type 0} (setting : Setting S) (scene : Scene setting) (v : View) (ledger : List Entry)
    (runs : World) (m : machine.Assembly) : Type 0 where
  pub here : IsNode setting scene.actor (part_of v) (m.epoch scene.actor) (m.wedged scene.actor) (m.log scene.actor)
      (m.waiting scene.actor) m.base m.live
  pub beside : (x : ℕ) → x ≢ scene.actor → IsTruthful setting x
      → IsNode setting x (part_of (scene.nodes x)) (m.epoch x) (m.wedged x) (m.log x) (m.waiting x) m.base m.live
  pub no_others : (g h : ℕ) → (IsTruthful setting g → ⊥) → length (m.log g h) ≡ 0
  pub top : IsOlympus setting scene.top m.top m.top_wedged m.decided m.decided_now m.retired m.base m.live
  pub told : IsLedger setting ledger m.ledger m.top m.decided m.base m.live
  pub run : IsRunOf runs.longest runs.run m.longest m.run

-- the actor isn't the Olympus
pub not_top : {S : Type 0} (setting : Setting S) (scene : Scene setting) → scene.actor ≢ olympus
not_top setting scene same =
    let a = scene.truthful.host in
    let b = scene.may.hosts in
    omega arith

-- what isn't true is false
pub is_not : (b : Bool) → not b ≡ true → b ≡ false
is_not true e = absurd (cc)
is_not false e = refl

-- and what is false isn't true
pub not_of : (b : Bool) → b ≡ false → not b ≡ true
not_of true e = absurd (cc)
not_of false e = refl

-- a host that is live at a node
pub record IsLiveAt {S : Type 0} (setting : Setting S) (v : View) (h : ℕ) : Type 0 where
  pub host : h < setting.scope.rules.hosts
  pub guard : setting.scope.guards v.epoch h v.me ≡ true
  pub kept : v.retired h ≡ false

-- it is such
pub live_is : {S : Type 0} (setting : Setting S) (v : View) (h : ℕ) → is_live setting.scope v h ≡ true
    → IsLiveAt setting v h
unfolding is_live
live_is setting v h e =
    let a = both_true (nat_lt h setting.scope.rules.hosts) (setting.scope.guards v.epoch h v.me && not (v.retired h)) e in
    let b = both_true (setting.scope.guards v.epoch h v.me) (not (v.retired h)) a.1 in record {
      host = (Decides-ltb h setting.scope.rules.hosts).0 a.0;
      guard = b.0;
      kept = is_not (v.retired h) b.1;
    }

-- an open slot
pub record IsOpenAt {S : Type 0} (setting : Setting S) (v : View) (h : ℕ) : Type 0 where
  pub live : IsLiveAt setting v h
  pub active : v.wedged ≡ false
  pub above_base : v.base h ≤ length_of v h

-- it is such
pub open_at : {S : Type 0} (setting : Setting S) (v : View) (h : ℕ) → is_open setting.scope v h ≡ true
    → IsOpenAt setting v h
unfolding is_open
open_at setting v h e =
    let a = both_true (is_live setting.scope v h) (not v.wedged && (has_reached v h && nat_lt (length_of v h) 1024)) e in
    let b = both_true (not v.wedged) (has_reached v h && nat_lt (length_of v h) 1024) a.1 in
    let c = both_true (has_reached v h) (nat_lt (length_of v h) 1024) b.1 in record {
      live = live_is setting v h a.0;
      active = is_not v.wedged b.0;
      above_base = leb-true (v.base h) (length_of v h) c.0;
    }

-- the machine's slot is open too
pub open_there : {S : Type 0} (setting : Setting S) (scene : Scene setting) (v : View) (ledger : List Entry) (runs : World)
    (m : machine.Assembly) (h : ℕ) → Stage setting scene v ledger runs m → IsOpenAt setting v h
    → IsOpen setting.scope.rules.hosts (net_of setting) m scene.actor v.epoch h (length_of v h)
open_there setting scene v ledger runs m h k o =
    let begins = k.here.begins h o.live.host o.live.kept in
    let above = o.above_base in record {
      host = o.live.host;
      guard = subst (λ x. setting.scope.guards v.epoch h x ≡ true) k.here.me o.live.guard;
      honest = scene.truthful.honest;
      now = k.here.epoch_is;
      active = k.here.wedged_is ∙ o.active;
      lives = k.here.lives h o.live.host ∙ not_of (v.retired h) o.live.kept;
      length_is = ap length (k.here.log_is h);
      above_base = omega arith;
    }

-- nothing was made, and the machine knows no other view
pub same_stage : {S : Type 0} (setting : Setting S) (scene : Scene setting) (v next : View) (ledger : List Entry) (runs : World)
    (m : machine.Assembly) → part_of next ≡ part_of v → Stage setting scene v ledger runs m
    → Stage setting scene next (with_made scene.actor [] ledger) runs m
same_stage setting scene v next ledger runs m same k = record {
  here = subst (λ p. IsNode setting scene.actor p (m.epoch scene.actor) (m.wedged scene.actor) (m.log scene.actor) (m.waiting scene.actor) m.base m.live) (sym same) k.here;
  beside = k.beside;
  no_others = k.no_others;
  top = k.top;
  told = ledger_same setting scene.actor ledger m.ledger m.top m.decided m.base m.live k.told;
  run = k.run;
}

-- a statement that the machine knows
pub says_stage : {S : Type 0} (setting : Setting S) (scene : Scene setting) (v next : View) (said : Said) (ledger : List Entry)
    (runs : World) (m : machine.Assembly) → part_of next ≡ part_of v → Stage setting scene v ledger runs m
    → Stage setting scene next (with_made scene.actor (statement_of said ∷ []) ledger) runs (after m (Says scene.actor said))
says_stage setting scene v next said ledger runs m same k = record {
  here = subst (λ p. IsNode setting scene.actor p (m.epoch scene.actor) (m.wedged scene.actor) (m.log scene.actor) (m.waiting scene.actor) m.base m.live) (sym same) k.here;
  beside = k.beside;
  no_others = k.no_others;
  top = k.top;
  told = ledger_says setting scene.actor said ledger m.ledger m.top m.decided m.base m.live (not_top setting scene) scene.truthful k.told;
  run = k.run;
}

-- the nodes of a world, where one of them is to act
pub staged : {S : Type 0} (setting : Setting S) (scene : Scene setting) (ledger : List Entry) (runs : World) (m : machine.Assembly)
    → AreNodes setting scene.nodes m
    → IsOlympus setting scene.top m.top m.top_wedged m.decided m.decided_now m.retired m.base m.live
    → IsLedger setting ledger m.ledger m.top m.decided m.base m.live
    → IsRunOf runs.longest runs.run m.longest m.run
    → Stage setting scene (scene.nodes scene.actor) ledger runs m
staged setting scene ledger runs m nodes top made run = record {
  here = nodes.each scene.actor scene.truthful;
  beside = λ x ne honest. nodes.each x honest;
  no_others = nodes.no_others;
  top = top;
  told = made;
  run = run;
}

-- and where it has acted
pub unstaged : {S : Type 0} (setting : Setting S) (scene : Scene setting) (v : View) (ledger : List Entry) (runs : World) (m : machine.Assembly)
    → Stage setting scene v ledger runs m → AreNodes setting (put scene.nodes scene.actor v) m
unstaged {S} setting scene v ledger runs m k = record {
  each = λ x honest. put_case (λ z. IsNode setting x (part_of z) (m.epoch x) (m.wedged x) (m.log x) (m.waiting x) m.base m.live)
      scene.nodes scene.actor v x
      (λ same. subst (λ y. IsNode setting y (part_of v) (m.epoch y) (m.wedged y) (m.log y) (m.waiting y) m.base m.live) (sym same) k.here)
      (λ other. k.beside x other honest);
  no_others = k.no_others;
}
