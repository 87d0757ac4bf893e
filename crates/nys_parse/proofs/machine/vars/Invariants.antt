use Rattle.std.proofs.Common.{◌≡◌, ◌-◌}
use Rattle.nys_parse.specs.Parsing.{many}
use Rattle.nys_parse.specs.Statements as spec
use Rattle.nys_parse.proofs.machine.vars.Given as goal

-- what is left of a list, from what was found so far, gives what the whole list gives
abbrev pub invariant-loop-turn : goal.invariant-loop-turn
invariant-loop-turn l = spec.vars l.fn.tokens ≡ many spec.next_var (l._turn-end - l._turn) l.found l.left
