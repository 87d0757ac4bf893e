-- A whole frame in front of bytes, cut from them.
use Rattle.std.proofs.Common.{ℕ, ◌+◌, ◌-◌, ◌≤◌, ◌≡◌, ◌∙◌, List, ◌++◌, length, length-drop, take, drop, Some, Ok, sym, ap, subst, arith, rules}
use Rattle.std.proofs.lemmas.List.{length-take-le, take-append-drop, drop-drop}
use Rattle.byteorder.specs.Endian.{big_bytes}
use Rattle.nys_frame.specs.declared.reader.TheConstants.{LENGTH_BYTES}
use Rattle.nys_frame.specs.Framing.{framed, front_of}

-- a whole frame in front is no longer than the bytes behind its length
pub front-fits : (bytes : List ℕ) (size : ℕ) → front_of bytes ≡ Ok (Some size) → LENGTH_BYTES + size ≤ length bytes
front-fits bytes size whole = search rules

-- so many bytes were cut from behind the length
pub cut-length : (bytes : List ℕ) (size : ℕ) → LENGTH_BYTES + size ≤ length bytes → length (take size (drop LENGTH_BYTES bytes)) ≡ size
cut-length bytes size fits =
    let rest : length (drop LENGTH_BYTES bytes) ≡ length bytes - LENGTH_BYTES = length-drop LENGTH_BYTES bytes in
    length-take-le size (drop LENGTH_BYTES bytes) (omega arith)

-- the length, the frame and the rest are all the bytes
pub front-cut : (bytes : List ℕ) (size : ℕ) → LENGTH_BYTES + size ≤ length bytes → big_bytes LENGTH_BYTES size ≡ take LENGTH_BYTES bytes →
    bytes ≡ framed (take size (drop LENGTH_BYTES bytes)) ++ drop (LENGTH_BYTES + size) bytes
front-cut bytes size fits spelled =
    let frame : List ℕ = take size (drop LENGTH_BYTES bytes) in
    let rest : List ℕ = drop (LENGTH_BYTES + size) bytes in
    let behind : frame ++ rest ≡ drop LENGTH_BYTES bytes =
    ap (λ tail. frame ++ tail) (sym (drop-drop size LENGTH_BYTES bytes)) ∙ take-append-drop size (drop LENGTH_BYTES bytes) in
    let whole : bytes ≡ take LENGTH_BYTES bytes ++ (frame ++ rest) =
    sym (take-append-drop LENGTH_BYTES bytes) ∙ ap (λ tail. take LENGTH_BYTES bytes ++ tail) (sym behind) in
    let numbered : bytes ≡ big_bytes LENGTH_BYTES size ++ (frame ++ rest) =
    subst (λ front. bytes ≡ front ++ (frame ++ rest)) (sym spelled) whole in
    subst (λ n. bytes ≡ big_bytes LENGTH_BYTES n ++ (frame ++ rest)) (sym (cut-length bytes size fits)) numbered

-- a frame that was cut from behind its length stood in front
pub front-given : (bytes frame rest : List ℕ) (size : ℕ) → front_of bytes ≡ Ok (Some size) → big_bytes LENGTH_BYTES size ≡ take LENGTH_BYTES bytes →
    frame ≡ take size (drop LENGTH_BYTES bytes) → rest ≡ drop (LENGTH_BYTES + size) bytes →
    (front_of bytes ≡ Ok (Some (length frame))) × (bytes ≡ framed frame ++ rest)
front-given bytes frame rest size whole spelled cut left =
    let fits : LENGTH_BYTES + size ≤ length bytes = front-fits bytes size whole in
    rw (cut, left)
    (whole ∙ ap (λ n. Ok (Some n)) (sym (cut-length bytes size fits)), front-cut bytes size fits spelled)
