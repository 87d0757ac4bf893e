-- Each step of a world keeps what the laws tell of it, so that what is asked of nodes and of the Olympus is
-- at hand where a step is to be followed.
use Rattle.nys_rules.specs.World.{Setting, World}
use Rattle.nys_laws.specs.Epochs.{HasHistory}
use Rattle.nys_laws.specs.Rests.{AreSound, IsSound}
use Rattle.nys_laws.specs.Testimony.{IsToldTruly}
use Rattle.nys_laws.proofs.EpochWorlds.{told_steps}
use Rattle.nys_laws.proofs.EventKeeping.{WorldsKeep}
use Rattle.nys_laws.proofs.NodesInWorlds.{nodes_keep}
use Rattle.nys_laws.proofs.RestsWorlds.{sound_steps}
use Rattle.nys_follows.specs.Scenario.{IsScenario}
use Rattle.nys_follows.proofs.FeedingWorlds.{history_keeps, hosts_of_scenario, IsKnown, set_up_of}

-- three facts of a world
known : {S : Type 0} (setting : Setting S) (w : World) → AreSound setting w → IsToldTruly setting w
    → HasHistory setting w
    → IsKnown setting w
known setting w sound told history = record { sound = sound; told = told; history = history }

-- each step of a world keeps its nodes sound
sound_keeps : {S : Type 0} (setting : Setting S) → IsScenario setting → WorldsKeep setting (AreSound setting)
sound_keeps setting asked =
    let keep = sound_steps setting (hosts_of_scenario setting asked) in
    nodes_keep setting (IsSound setting) keep
    (λ g ledger v r frame read is true_makers k. keep.records g ledger v r (frame, read) is true_makers k)

-- each step of a world keeps what is known of it
pub known_steps : {S : Type 0} (setting : Setting S) → IsScenario setting → WorldsKeep setting (IsKnown setting)
known_steps {S} setting asked = record {
  rules = λ w g v rule acting is k.
      known setting _ (one.rules w g v rule acting is k.sound) (two.rules w g v rule acting is k.told)
      (three.rules w g v rule acting is k.history);
  records = λ w g v r acting host is some k.
      known setting _ (one.records w g v r acting host is some k.sound)
      (two.records w g v r acting host is some k.told)
      (three.records w g v r acting host is some k.history);
  inputs = λ w g v payload may acting room k.
      known setting _ (one.inputs w g v payload may acting room k.sound) (two.inputs w g v payload may acting room k.told)
      (three.inputs w g v payload may acting room k.history);
  asking = λ w g v acting k.
      known setting _ (one.asking w g v acting k.sound) (two.asking w g v acting k.told)
      (three.asking w g v acting k.history);
  hears = λ w r is some k.
      known setting _ (one.hears w r is some k.sound) (two.hears w r is some k.told)
      (three.hears w r is some k.history);
  wedges = λ w is k. known setting _ (one.wedges w is k.sound) (two.wedges w is k.told) (three.wedges w is k.history);
  decides = λ w h after answer decides k.
      known setting _ (one.decides w h after answer decides k.sound) (two.decides w h after answer decides k.told)
      (three.decides w h after answer decides k.history);
  retires = λ w h is k.
      known setting _ (one.retires w h is k.sound) (two.retires w h is k.told) (three.retires w h is k.history);
  epochs = λ w epoch is k.
      known setting _ (one.epochs w epoch is k.sound) (two.epochs w epoch is k.told)
      (three.epochs w epoch is k.history);
  packets = λ w event packets brings k.
      known setting _ (one.packets w event packets brings k.sound) (two.packets w event packets brings k.told)
      (three.packets w event packets brings k.history);
  told = λ w events delivered injected takes notes k.
      known setting _ (one.told w events delivered injected takes notes k.sound)
      (two.told w events delivered injected takes notes k.told)
      (three.told w events delivered injected takes notes k.history);
}
  where
    one : WorldsKeep setting (AreSound setting)
    one = sound_keeps setting asked

    two : WorldsKeep setting (IsToldTruly setting)
    two = told_steps setting (set_up_of setting asked)

    three : WorldsKeep setting (HasHistory setting)
    three = history_keeps setting (set_up_of setting asked)
