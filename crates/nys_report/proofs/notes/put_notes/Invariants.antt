-- the text so far and the lines that are left make the whole text
use Rattle.std.proofs.Common.{◌≡◌, ◌++◌, drop}
use Rattle.nys_printed.specs.Lines.{notes_text}
use Rattle.nys_report.proofs.notes.put_notes.Given as goal

abbrev pub invariant-loop-note : goal.invariant-loop-note
invariant-loop-note l = l.out ++ notes_text (drop l.note-index l.notes) ≡ l.fn.out ++ notes_text l.notes
