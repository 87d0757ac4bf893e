-- It made another of the same spelling, or not.
use Rattle.std.proofs.Common.{inr}
use Rattle.nys_world.proofs.UntrueLemmas.{untrue_clash, untrue_forged}
use Rattle.nys_world.proofs.books.Books.untrue.Goals as goal

-- it did
pub returns-in-Some : goal.returns-in-Some
returns-in-Some c = λ w k.
    untrue_clash c.args.self.now w c.args.maker c.args.taker c.before.in-Some.first.now c.args.taken c.clash.result k c.in-Some.ensures.some
    c.clash.ensures

-- it didn't
pub returns-in-None : goal.returns-in-None
returns-in-None c = λ w k.
    inr (untrue_forged c.args.self.now w c.args.maker c.args.taker c.args.taken k c.in-None.ensures.none)
