use Rattle.std.proofs.Common.{ℕ, ◌≡◌, Ok, Some, take, drop, rules}
use Rattle.byteorder.specs.Endian.{big_bytes}
use Rattle.nys_frame.specs.declared.reader.TheConstants.{LENGTH_BYTES}
use Rattle.nys_frame.specs.Framing.{front_of}
use Rattle.nys_frame.proofs.FramingLemmas.{front-given}
use Rattle.nys_frame.proofs.reader.FrameReader.next.Goals as goal

-- the frame was cut from behind its length
pub returns-clause-answer : goal.returns-clause-answer
returns-clause-answer c =
    let size : ℕ = c.in-Some.size in
    let whole : front_of c.args.self.now ≡ Ok (Some size) = search rules in
    let spelled : big_bytes LENGTH_BYTES size ≡ take LENGTH_BYTES c.args.self.now = search rules in
    let frame : c.extend_from_slice.new.self.items ≡ take size (drop LENGTH_BYTES c.args.self.now) = search rules in
    front-given c.args.self.now c.extend_from_slice.new.self.items c.forget.new.self size whole spelled frame c.forget.ensures
