-- HMAC with SHA-256, as RFC 2104 defines it over FIPS 180-4, on lists of bytes. Section numbers are
-- those of RFC 2104; SHA-256 on lists is the definition of the crate `sha2`.
use Rattle.std.specs.Prelude.{ℕ, ◌-◌, List, ◌++◌, length, map, replicate, bit_xor, nat_lt, if◌then◌else◌}
use Rattle.sha2.specs.Sha256.{sha256}

-- B, the bytes of a block of SHA-256 (section 2)
abbrev pub block_len : ℕ
block_len = 64

-- a byte of ipad (section 2)
abbrev pub inner_byte : ℕ
inner_byte = 0x36

-- a byte of opad (section 2)
abbrev pub outer_byte : ℕ
outer_byte = 0x5c

-- the key, or its digest where it is longer than a block (section 2)
abbrev pub short_key : List ℕ → List ℕ
short_key key = (if nat_lt block_len (length key) then sha256 key else key)

-- K, the key with zeros behind it up to the length of a block (section 2, step 1)
abbrev pub key_block : List ℕ → List ℕ
key_block key = short_key key ++ replicate (block_len - length (short_key key)) 0

-- the block with this byte added bit by bit to each of its bytes (section 2, steps 2 and 5)
abbrev pub masked : ℕ → List ℕ → List ℕ
masked mask block = map (λ x. bit_xor x mask) block

-- H(K XOR ipad, text) (section 2, steps 3 and 4)
abbrev pub inner_digest : List ℕ → List ℕ → List ℕ
inner_digest key text = sha256 (masked inner_byte (key_block key) ++ text)

-- H(K XOR opad, H(K XOR ipad, text)) (section 2)
unfoldable pub hmac_of : List ℕ → List ℕ → List ℕ
hmac_of key text = sha256 (masked outer_byte (key_block key) ++ inner_digest key text)
