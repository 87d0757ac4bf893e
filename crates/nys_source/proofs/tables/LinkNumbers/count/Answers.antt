-- one row of the table has a greater number
use Rattle.std.proofs.Common.{◌≡◌, ℕ, ◌+◌, ◌<◌, ◌∙◌, List, [], length, subst, arith}
use Rattle.std.proofs.lemmas.List.{get_or_default}
use Rattle.nys_source.specs.Tables.{put, at_each, numbers_at_both}
use Rattle.nys_source.proofs.TableLemmas.{numbers_at_both-put}
use Rattle.nys_source.proofs.tables.LinkNumbers.count.Goals as goal

pub returns : goal.returns
returns c =
    let rows = c.self.inside.rows.items in
    let inside : c.args.p < length rows = omega arith in
    let row = c.index_mut.ensures.value ∙ get_or_default rows c.args.p c.index_mut.result.now [] inside in
    let Grown : List ℕ → Type 0 = λ r. at_each (λ _. 0) c.count.new.self ≡ put (at_each (λ _. 0) r) c.args.h (at_each (λ _. 0) r c.args.h + 1) in
    rw (← c.self.view_is) (numbers_at_both-put rows c.args.p c.args.h (numbers_at_both rows c.args.p c.args.h + 1) c.count.new.self inside (subst Grown row c.count.ensures))
