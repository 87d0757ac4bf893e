-- one row of the table has one payload more
use Rattle.std.proofs.Common.{◌≡◌, ℤ, ◌<◌, ◌∙◌, List, [], length, subst, arith}
use Rattle.std.proofs.lemmas.List.{get_or_default}
use Rattle.nys_source.specs.Tables.{added, lists_at}
use Rattle.nys_source.proofs.TableLemmas.{lists_at_both-added}
use Rattle.nys_source.proofs.tables.LinkPayloads.push.Goals as goal

pub returns : goal.returns
returns c =
    let rows = c.self.inside.rows.items in
    let inside : c.args.p < length rows = omega arith in
    let row = c.index_mut.ensures.value ∙ get_or_default rows c.args.p c.index_mut.result.now [] inside in
    let Grown : List (List (List ℤ)) → Type 0 = λ r. lists_at c.push.new.self ≡ added (lists_at r) c.args.h c.args.payload in
    rw (← c.self.view_is) (lists_at_both-added rows c.args.p c.args.h c.args.payload c.push.new.self inside (subst Grown row c.in_ok-push.ensures))
