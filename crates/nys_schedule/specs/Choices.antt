-- Words that write one thing each, or nothing.
use Rattle.std.specs.Prelude.{ℕ, Bool, List, Option, None, Some, is_some, nat_le, if◌then◌else◌}
use Rattle.std.specs.List.{filter_map, list_all}
use Rattle.nys_text.specs.Numbers.{num_of}

-- what is made of the value, where there is one
infixl 10 ◌>>=◌
abbrev pub ◌>>=◌ : {A B : Type 0} → Option A → (A → Option B) → Option B
None >>= f = None
(Some x) >>= f = f x

-- the first value that is there
abbrev pub first_of : {A : Type 0} → Option A → Option A → Option A
first_of None other = other
first_of (Some x) other = Some x

-- the number, where it is at most this
abbrev pub within : ℕ → Option ℕ → Option ℕ
within most None = None
within most (Some n) = if nat_le n most then Some n else None

-- the NUM that a word is, where it is at most this
abbrev pub upto : ℕ → List ℕ → Option ℕ
upto most word = within most (num_of word)

-- each word writes something
abbrev pub all_write : {A : Type 0} → (List ℕ → Option A) → List (List ℕ) → Bool
all_write of_word words = list_all (λ word. is_some (of_word word)) words

-- what the words write that write something
abbrev pub written : {A : Type 0} → (List ℕ → Option A) → List (List ℕ) → List A
written of_word words = filter_map of_word words

-- what the words write, of which each writes something
abbrev pub each_of : {A : Type 0} → (List ℕ → Option A) → List (List ℕ) → Option (List A)
each_of of_word words = if all_write of_word words then Some (written of_word words) else None

-- the NUMs that the words are
abbrev pub nums_of : List (List ℕ) → Option (List ℕ)
nums_of words = each_of num_of words
