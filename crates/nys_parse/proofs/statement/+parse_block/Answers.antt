use Rattle.std.proofs.Common.{◌≡◌, ◌∙◌, sym, ap, rules, arith, Err}
use Rattle.std.proofs.lemmas.Grind.{common_steps}
use Rattle.nys_parse.specs.Parsing.{many, all_of}
use Rattle.nys_parse.specs.Expressions.{deeper_of}
use Rattle.nys_parse.specs.Statements as spec
use Rattle.nys_parse.specs.Statements.{nested_of, stmts, members, vars}
use Rattle.nys_parse.proofs.Turns.{one_more, no_more, deeper}
use Rattle.nys_parse.proofs.statement.+parse_block.Goals as goal

-- no level is left
pub inner_block-returns-then-depth-eq0 : goal.inner_block-returns-then-depth-eq0
unfolding nested_of
inner_block-returns-then-depth-eq0 t c _ = let none : c.args.depth ≡ 0 = omega arith in ap (λ n. (nested_of n).block c.args.tokens.now) none ∙ sym (ap Err c.deep.ensures)

-- a level is left, which the token takes
pub inner_block-returns : goal.inner_block-returns
unfolding nested_of
inner_block-returns t c = rw (deeper (λ n. (nested_of n).block c.args.tokens.now) c.args.depth (omega arith), ← c.behind.ensures) c.braced.ensures

-- no level is left
pub inner_branch-returns-then-depth-eq0 : goal.inner_branch-returns-then-depth-eq0
unfolding nested_of
inner_branch-returns-then-depth-eq0 t c _ = let none : c.args.depth ≡ 0 = omega arith in ap (λ n. (nested_of n).branch c.args.tokens.now) none ∙ sym (ap Err c.deep.ensures)

-- a level is left, which the token takes
pub inner_branch-returns : goal.inner_branch-returns
unfolding nested_of
inner_branch-returns t c = rw (deeper (λ n. (nested_of n).branch c.args.tokens.now) c.args.depth (omega arith), ← c.behind.ensures) c.branch-alloc.ensures

-- a list goes on as its rule for one more says
pub stmts-loop-turn-init : goal.stmts-loop-turn-init
unfolding stmts all_of
stmts-loop-turn-init t c = first_of (search rules, grind (arith, common_steps))

pub stmts-returns-in_err-more : goal.stmts-returns-in_err-more
unfolding many
stmts-returns-in_err-more t c =
    let e = one_more (λ n. many (spec.next_stmt (deeper_of c.args.depth) (nested_of c.args.depth)) n c.loop-turn.found c.loop-turn.left.now) _ c.loop-turn._turn c.loop-turn-test.true c.loop-turn.invariant in
    first_of (search rules, grind (arith, common_steps))

pub stmts-returns-in-None : goal.stmts-returns-in-None
unfolding many
stmts-returns-in-None t c =
    let e = one_more (λ n. many (spec.next_stmt (deeper_of c.args.depth) (nested_of c.args.depth)) n c.loop-turn.found c.loop-turn.left.now) _ c.loop-turn._turn c.loop-turn-test.true c.loop-turn.invariant in
    first_of (search rules, grind (arith, common_steps))

pub stmts-loop-turn-preserved : goal.stmts-loop-turn-preserved
unfolding many
stmts-loop-turn-preserved t c =
    let e = one_more (λ n. many (spec.next_stmt (deeper_of c.args.depth) (nested_of c.args.depth)) n c.loop-turn.found c.loop-turn.left.now) _ c.loop-turn._turn c.loop-turn-test.true c.loop-turn.invariant in
    first_of (search rules, grind (arith, common_steps))

pub stmts-returns : goal.stmts-returns
unfolding many
stmts-returns t c =
    let e = no_more (λ n. many (spec.next_stmt (deeper_of c.args.depth) (nested_of c.args.depth)) n c.loop-turn.found c.loop-turn.left.now) _ c.loop-turn._turn c.loop-turn-test.false c.loop-turn.invariant in
    first_of (search rules, grind (arith, common_steps))
