use Rattle.std.proofs.Common.{◌++◌, length}
use Rattle.std.proofs.lemmas.List.{drop-replicate}
use Rattle.nys_mac.proofs.authenticating.padded.Goals as goal

-- the bytes behind the copied ones are the zeros that stood there
pub returns : goal.returns
returns c = λ i. c.copy_from_slice.ensures.after i ++ drop-replicate (length c.args.short.now) 64 0 i
