-- The keys that two parties share, and the tag by which one of them shows the other what it said.
use Rattle.std.specs.Prelude.{ℕ, List, [], ◌∷◌, ◌++◌, codes, min, max}
use Rattle.nys_mac.specs.Hmac.{hmac_of}

-- what the key of two parties is made from: a fixed word, the lesser number, the greater number
abbrev pub pair_text : ℕ → ℕ → List ℕ
pair_text i j = codes "nysiad-pair" ++ min i j ∷ max i j ∷ []

-- the key that two parties share, whichever is named first
unfoldable pub pair_key : List ℕ → ℕ → ℕ → List ℕ
pair_key master i j = hmac_of master (pair_text i j)

-- what a tag is made from: its maker, its receiver, and what the maker says
abbrev pub tag_text : ℕ → ℕ → List ℕ → List ℕ
tag_text maker receiver bytes = maker ∷ receiver ∷ bytes

-- the tag of what the maker says to the receiver, under the key that they share
unfoldable pub tag_of : List ℕ → ℕ → ℕ → List ℕ → List ℕ
tag_of master maker receiver bytes = hmac_of (pair_key master maker receiver) (tag_text maker receiver bytes)
