use Rattle.std.proofs.Common.{◌≡◌, ◌<◌, ◌≤◌, ◌⊎◌, Err, length, get_or, sym, ◌∙◌, arith, rules}
use Rattle.std.proofs.lemmas.Iterator.Splits.{YieldsList-from_lines}
use Rattle.std.proofs.lemmas.Iterator.Consumers.{YieldsList-turn, YieldsList-end}
use Rattle.std.proofs.lemmas.List.{length_push}
use Rattle.std.specs.Str.Lines.{lines}
use Rattle.nys_text.specs.declared.reader.TextFault.TheVariants.{NoMemory}
use Rattle.nys_text.specs.Reading.{reading, told}
use Rattle.nys_text.proofs.ReaderLemmas.{turn_on, turn_ends, all_read}
use Rattle.nys_text.proofs.reader.read_each.Goals as goal

pub loop-line-preserved : goal.loop-line-preserved
loop-line-preserved g c =
    let texts = lines c.args.text.now in
    let turn = YieldsList-turn (YieldsList-from_lines c.args.text.now cc) c.loop-line.yielded _ c.loop-line.yielded_by _ _ c.in-Some.line c.in-Some.is c.next.ensures.steps in
    let here : (c.loop-line.number < length texts) × (c.in-Some.line.now ≡ get_or texts c.loop-line.number c.in-Some.line.now) = rw c.loop-line.invariant.count turn in
    let kept = rw c.as_bytes.ensures.value at c.in_ok-take_line.ensures.ok in
    record {
      count = omega (arith, length_push c.loop-line.yielded c.in-Some.line);
      rest = turn_on (g.G.Grammar.says c.args.grammar.now) c.args.most c.loop-line.number c.loop-line.items.items c.take_line.new.items.items texts c.in-Some.line.now here kept ∙ c.loop-line.invariant.rest;
    }

pub returns-in_err-take_line-clause-err : goal.returns-in_err-take_line-clause-err
returns-in_err-take_line-clause-err g c =
    let texts = lines c.args.text.now in
    let turn = YieldsList-turn (YieldsList-from_lines c.args.text.now cc) c.loop-line.yielded _ c.loop-line.yielded_by _ _ c.in-Some.line c.in-Some.is c.next.ensures.steps in
    let here : (c.loop-line.number < length texts) × (c.in-Some.line.now ≡ get_or texts c.loop-line.number c.in-Some.line.now) = rw c.loop-line.invariant.count turn in
    let refused = rw c.as_bytes.ensures.value at c.in_err-take_line.ensures.err in
    let ended : (c.in_err-take_line.field-0.0 ≡ NoMemory) ⊎ (reading (g.G.Grammar.says c.args.grammar.now) c.args.most (told c.args.text.now) ≡ Err c.in_err-take_line.field-0.0) =
    turn_ends (g.G.Grammar.says c.args.grammar.now) c.args.most c.loop-line.number c.loop-line.items.items c.in_err-take_line.field-0.0 texts c.in-Some.line.now (reading (g.G.Grammar.says c.args.grammar.now) c.args.most (told c.args.text.now)) here c.loop-line.invariant.rest refused in
    search rules

pub returns-clause-ok : goal.returns-clause-ok
returns-clause-ok g c =
    let texts = lines c.args.text.now in
    let ends = YieldsList-end (YieldsList-from_lines c.args.text.now cc) c.loop-line.yielded _ c.loop-line.yielded_by _ _ c.in-None.is c.next.ensures.steps in
    let past : length texts ≤ c.loop-line.number = omega (arith, ends.1) in
    sym c.loop-line.invariant.rest ∙ all_read (g.G.Grammar.says c.args.grammar.now) c.args.most c.loop-line.number c.loop-line.items.items texts past
