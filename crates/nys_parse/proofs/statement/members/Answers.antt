use Rattle.std.proofs.Common.{rules, arith}
use Rattle.std.proofs.lemmas.Grind.{common_steps}
use Rattle.nys_tree.specs.declared.stmt.TheConstants.{MAX_MEMBERS}
use Rattle.nys_parse.specs.Parsing.{many}
use Rattle.nys_parse.specs.Expressions.{deeper_of}
use Rattle.nys_parse.specs.Statements as spec
use Rattle.nys_parse.specs.Statements.{nested_of, stmts, members, vars}
use Rattle.nys_parse.proofs.Turns.{one_more, no_more}
use Rattle.nys_parse.proofs.statement.members.Goals as goal

-- the first member is refused
pub returns-in_err-first : goal.returns-in_err-first
unfolding members
returns-in_err-first c = first_of (search rules, grind (arith, common_steps))

-- a list goes on as its rule for one more says
pub loop-turn-init : goal.loop-turn-init
unfolding members
loop-turn-init c = first_of (search rules, grind (arith, common_steps))

pub returns-in_err-more : goal.returns-in_err-more
unfolding many
returns-in_err-more c =
    let e = one_more (λ n. many (spec.next_member (deeper_of c.args.depth) (nested_of c.args.depth)) n c.loop-turn.found c.loop-turn.left.now) MAX_MEMBERS c.loop-turn._turn c.loop-turn-test.true c.loop-turn.invariant in
    first_of (search rules, grind (arith, common_steps))

pub returns-in-None : goal.returns-in-None
unfolding many
returns-in-None c =
    let e = one_more (λ n. many (spec.next_member (deeper_of c.args.depth) (nested_of c.args.depth)) n c.loop-turn.found c.loop-turn.left.now) MAX_MEMBERS c.loop-turn._turn c.loop-turn-test.true c.loop-turn.invariant in
    first_of (search rules, grind (arith, common_steps))

pub loop-turn-preserved : goal.loop-turn-preserved
unfolding many
loop-turn-preserved c =
    let e = one_more (λ n. many (spec.next_member (deeper_of c.args.depth) (nested_of c.args.depth)) n c.loop-turn.found c.loop-turn.left.now) MAX_MEMBERS c.loop-turn._turn c.loop-turn-test.true c.loop-turn.invariant in
    first_of (search rules, grind (arith, common_steps))

pub returns : goal.returns
unfolding many
returns c =
    let e = no_more (λ n. many (spec.next_member (deeper_of c.args.depth) (nested_of c.args.depth)) n c.loop-turn.found c.loop-turn.left.now) MAX_MEMBERS c.loop-turn._turn c.loop-turn-test.false c.loop-turn.invariant in
    first_of (search rules, grind (arith, common_steps))
