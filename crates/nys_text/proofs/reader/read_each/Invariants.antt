use Rattle.std.proofs.Common.{◌≡◌, ◌+◌, drop, length}
use Rattle.std.specs.Str.Lines.{lines}
use Rattle.nys_text.specs.Reading.{reading, told, told_from}
use Rattle.nys_text.proofs.ReaderLemmas.{more_of}
use Rattle.nys_text.proofs.reader.read_each.Given as goal

abbrev pub invariant-loop-line : goal.invariant-loop-line
invariant-loop-line g l = record {
  count : l.number ≡ length l.yielded;
  rest : more_of (g.G.Grammar.says l.grammar) l.most l.items.items (told_from (l.number + 1) (drop l.number (lines l.text))) ≡ reading (g.G.Grammar.says l.grammar) l.most (told l.text);
}
