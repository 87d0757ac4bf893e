-- One way more is shown by the numbers at its place.
use Rattle.std.proofs.Common.{rules, ◌≡◌, ◌+◌, ◌++◌, ◌∷◌, [], sym, subst}
use Rattle.std.specs.Prelude.{pos, slice_index_or}
use Rattle.nys_route.specs.Shown.{ShowAll, Shows}
use Rattle.nys_route.proofs.ShownLemmas.{show_more}
use Rattle.nys_route.proofs.reading.read_all.Goals as goal

pub loop-d-preserved : goal.loop-d-preserved
loop-d-preserved c =
    let n = c.args.n in
    let d = c.loop-d.d in
    let numbers = c.args.numbers.now in
    let here : Shows c.in-Some.way (slice_index_or numbers d (pos 0)) (slice_index_or numbers (n + d) (pos 0)) = search rules in
    let pushed : c.push.new.self.items ≡ c.loop-d.held.items ++ c.in-Some.way ∷ [] = search rules in
    subst (ShowAll n (d + 1) numbers) (sym pushed) (show_more n d numbers c.loop-d.held.items c.in-Some.way c.loop-d.invariant here)
