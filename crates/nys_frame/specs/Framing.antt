-- How a frame stands among bytes: a length of four bytes, the greatest first, then the frame.
use Rattle.std.specs.Prelude.{ℕ, ◌+◌, ◌≡◌, Bool, true, false, nat_lt, ◌&&◌, if◌then◌else◌, List, ◌++◌, length, take, Option, None, Some, Result, Ok, Err}
use Rattle.byteorder.specs.Endian.{big_bytes, big_number}
use Rattle.nys_hosts.specs.declared.limits.TheConstants.{MAX_FRAME}
use Rattle.nys_frame.specs.declared.fault.FrameFault.{FrameFault}
use Rattle.nys_frame.specs.declared.fault.FrameFault.TheVariants.{BadLength, NoMemory}
use Rattle.nys_frame.specs.declared.reader.TheConstants.{LENGTH_BYTES}

-- a frame with its length in front
abbrev pub framed : List ℕ → List ℕ
framed frame = big_bytes LENGTH_BYTES (length frame) ++ frame

-- the length in front
abbrev pub length_in_front : List ℕ → ℕ
length_in_front bytes = big_number LENGTH_BYTES (take LENGTH_BYTES bytes)

-- whether a frame may have so many bytes
abbrev pub is_frame_length : ℕ → Bool
is_frame_length size = nat_lt 0 size && nat_lt size (MAX_FRAME + 1)

-- what stands in front of the bytes: a length that no frame has, a whole frame of this length, or less than
-- one
abbrev pub front_of : List ℕ → Result (Option ℕ) FrameFault
front_of bytes =
    if nat_lt (length bytes) LENGTH_BYTES then Ok None
    else if is_frame_length (length_in_front bytes) then
    (if nat_lt (length bytes) (LENGTH_BYTES + length_in_front bytes) then Ok None
    else Ok (Some (length_in_front bytes)))
    else Err (BadLength (length_in_front bytes))

-- the length in front is this one, which no frame has
abbrev pub IsBad : List ℕ → ℕ → Type 0
IsBad bytes size = front_of bytes ≡ Err (BadLength size)

-- the length in front is spelled so
abbrev pub IsSpelled : List ℕ → ℕ → Type 0
IsSpelled bytes size = big_bytes LENGTH_BYTES size ≡ take LENGTH_BYTES bytes

-- what the next frame is, by what stands in front: it leaves the bytes with its length, or nothing changes
abbrev pub IsNext : Result (Option ℕ) FrameFault → Result Bool FrameFault →
    List ℕ → List ℕ → List ℕ → Type 0
IsNext front (Ok true) frame old new = (front ≡ Ok (Some (length frame))) × (old ≡ framed frame ++ new)
IsNext front (Ok false) frame old new = (front ≡ Ok None) × (new ≡ old)
IsNext front (Err NoMemory) frame old new = new ≡ old
IsNext front (Err (BadLength size)) frame old new = (front ≡ Err (BadLength size)) × (new ≡ old)
