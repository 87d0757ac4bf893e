-- Each call of a node keeps its numbers in their ranges.
use Rattle.std.proofs.Common.{◌≡◌, ℕ, ℤ, List, Some, None, Ok, Err, refl, sym, subst}
use Rattle.std.specs.Prelude.{Option, Result}
use Rattle.nys_stmt.specs.declared.records.Record.{Record}
use Rattle.nys_wire.proofs.Steps.{IsBytes}
use Rattle.nys_wire.specs.Reading.{whole_record}
use Rattle.nys_wire.specs.declared.fault.WireFault.{WireFault}
use Rattle.nys_wire.specs.declared.fault.WireFault.TheVariants.{At, NoMemory}
use Rattle.nys_wire.proofs.Wholes.{whole_takes}
use Rattle.nys_rules.specs.declared.cause.DropCause.{DropCause}
use Rattle.nys_rules.specs.Dropping.{verdict}
use Rattle.nys_rules.specs.Handling.{AnswersTo, Asks, Handles, HandlesReading, Takes}
use Rattle.nys_rules.specs.Noting.{noted}
use Rattle.nys_rules.specs.Packets.{Done}
use Rattle.nys_rules.specs.Scope.{Scope}
use Rattle.nys_rules.specs.View.{View}
use Rattle.nys_rules.proofs.KeepLemmas.{asks_keep, takes_keep}
use Rattle.nys_node.specs.Sound.{IsScope, IsSound}
use Rattle.nys_node.proofs.SoundViews.{sound_input, sound_noted, sound_settled, sound_taken}

-- bytes that a node is given
pub sound_handled : {S : Type 0} (scope : Scope S) → IsScope scope → (v after : View) (frame : List ℕ) (done : Done) → IsBytes frame
    → Handles scope v frame after done → IsSound scope v → IsSound scope after
sound_handled {S} scope is v after frame done bytes handles k = by_reading (whole_record frame) refl handles
  where
    by_verdict : (r : Record) → whole_record frame ≡ Ok r → (cause : Option DropCause) → verdict scope v r ≡ cause
        → AnswersTo scope v r cause after done → IsSound scope after
    by_verdict r read (Some cause) none answers = subst (IsSound scope) (sym answers.0) k
    by_verdict r read None none answers =
        sound_settled scope is (noted scope v r) after answers.rest answers.settles
        (sound_noted scope v r none (whole_takes frame r bytes read).0 k)

    by_reading : (reading : Result Record WireFault) → whole_record frame ≡ reading → HandlesReading scope v reading after done
        → IsSound scope after
    by_reading (Ok r) read answers = by_verdict r read (verdict scope v r) refl answers
    by_reading (Err (At place what)) read answers = subst (IsSound scope) (sym answers.0) k
    by_reading (Err NoMemory) read answers = absurd answers

-- an input that it is handed
pub sound_takes : {S : Type 0} (scope : Scope S) → IsScope scope → (v after : View) (payload : List ℤ) (done : Done)
    → Takes scope v payload after done → IsSound scope v → IsSound scope after
sound_takes scope is = takes_keep scope (IsSound scope) (sound_taken scope is) (λ v payload room k. sound_input scope v payload k)

-- questions that it asks
pub sound_asks : {S : Type 0} (scope : Scope S) → IsScope scope → (v after : View) (done : Done) → Asks scope v after done
    → IsSound scope v → IsSound scope after
sound_asks scope is = asks_keep scope (IsSound scope) (sound_taken scope is)
