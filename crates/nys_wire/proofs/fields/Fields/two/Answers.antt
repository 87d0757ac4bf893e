use Rattle.std.proofs.Common.{rules, ◌^◌, ◌<◌}
use Rattle.std.specs.Int.{w16}
use Rattle.std.proofs.lemmas.Result.{err_from_is_err_and}
use Rattle.nys_wire.proofs.Numbers.{wide16}
use Rattle.nys_wire.proofs.Places.{bytes_lie, number_lies, number_fails}
use Rattle.nys_wire.proofs.fields.Fields.two.Goals as goal

pub two_of-requires : goal.two_of-requires
two_of-requires c = (bytes_lie 2 _ _ _ c.in_ok-field.ensures.lies).size

pub returns-in_err-field : goal.returns-in_err-field
returns-in_err-field c =
    let p = err_from_is_err_and c.from_residual.result c.from_residual.ensures.1 in
    rw (p.1, p.2) (number_fails w16 _ _ c.in_err-field.ensures.lies)

-- the number of what was read
pub returns : goal.returns
returns c =
    let fits : c.two_of.result < 2 ^ 16 = search rules in
    number_lies w16 (2 ^ 16) wide16 _ _ _ c.two_of.result c.in_ok-field.ensures.lies c.two_of.ensures fits
