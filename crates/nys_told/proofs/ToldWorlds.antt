-- In each world that events make notes tell what the Olympus keeps.
use Rattle.std.proofs.Common.{[], inr, refl, arith}
use Rattle.nys_rules.specs.declared.notice.NoteKind.{NoteKind}
use Rattle.nys_rules.specs.World.{fresh_world, Setting}
use Rattle.nys_rules.proofs.WorldFrames.{happen_keep}
use Rattle.nys_laws.specs.Worlds.{InEachWorld}
use Rattle.nys_told.specs.Noted.{IsNoted}
use Rattle.nys_told.specs.Told.{TellsOlympus}
use Rattle.nys_told.proofs.EventNotes.{happens_notes}
use Rattle.nys_told.proofs.NoteLemmas.{IsToldBy}

-- nothing is noted at first
none_noted : (kind : NoteKind) → IsNoted [] kind → ⊥
none_noted kind is = let inside = is.1.1 in omega (arith, inside)

-- nothing is decided at first, and nobody given up
fresh_told : {S : Type 0} (setting : Setting S) → IsToldBy (fresh_world setting).notes (fresh_world setting).olympus
unfolding fresh_world
fresh_told setting = record {
  decided = λ h. record { most = λ len is. absurd (none_noted _ is); reached = inr refl };
  retired = λ h. (λ is. absurd (cc), λ is. absurd (none_noted _ is));
  still = λ h is. refl;
}

-- whatever events make it
pub tell_olympus : {S : Type 0} (setting : Setting S) → InEachWorld setting TellsOlympus
tell_olympus setting events w happen =
    let told = happen_keep setting (λ x. IsToldBy x.notes x.olympus)
    (λ x next event happens. (happens_notes setting x next event happens).noted.told) (fresh_world setting) w events happen
    (fresh_told setting) in
    record { decided = told.decided; retired = told.retired }
