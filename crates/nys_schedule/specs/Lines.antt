-- What a line is by its grammar alone: hosts and liars aren't known here.
use Rattle.std.specs.Prelude.{ℕ, List, [], ◌∷◌, Option, None, Some}
use Rattle.std.specs.Option.{option_map}
use Rattle.nys_text.specs.Numbers.{num_of, only_num, payload_of}
use Rattle.nys_rules.specs.Events.{Plain}
use Rattle.nys_rules.specs.Events.Plain.{Input, Deliver, Flush, Exchange, Ask, Bytes, Bundle, Say, Steal, Wedge, Decide, Retire, Open}
use Rattle.nys_schedule.specs.declared.form.Form.{Form}
use Rattle.nys_schedule.specs.declared.keyword.Keyword.{Keyword}
use Rattle.nys_schedule.specs.declared.keyword.Keyword.TheVariants as key
use Rattle.nys_schedule.specs.declared.stated.Stated.{Stated}
use Rattle.nys_schedule.specs.Choices.{◌>>=◌, nums_of}
use Rattle.nys_schedule.specs.Hexes.{hexes_of}
use Rattle.nys_schedule.specs.Keywords.{keyword_in}
use Rattle.nys_schedule.specs.Lists.{list_of}
use Rattle.nys_schedule.specs.Statements.{statement_of}

-- `H PAYLOAD`
unfoldable pub input_of : List (List ℕ) → Option Plain
input_of [] = None
input_of (h ∷ numbers) = do
  host ← num_of h
  payload ← payload_of numbers
  Some (Input host payload)

-- `G HEX`
unfoldable pub bytes_of : List (List ℕ) → Option Plain
bytes_of (g ∷ digits ∷ []) = do
  party ← num_of g
  frame ← hexes_of digits
  Some (Bytes party frame)
bytes_of _ = None

-- `A LIST STATEMENT`
unfoldable pub stated_of : List (List ℕ) → Option Stated
stated_of (a ∷ list ∷ words) = do
  party ← num_of a
  to ← list_of list
  statement ← statement_of words
  Some (record { a = party; to = to; statement = statement })
stated_of _ = None

-- `K1 K2 ..`, one or more
abbrev pub packets_of : List (List ℕ) → Option (List ℕ)
packets_of [] = None
packets_of (word ∷ words) = nums_of (word ∷ words)

-- `A LIST K1 K2 ..`
unfoldable pub bundle_of : List (List ℕ) → Option Plain
bundle_of (a ∷ list ∷ words) = do
  party ← num_of a
  to ← list_of list
  packets ← packets_of words
  Some (Bundle party to packets)
bundle_of _ = None

-- no words
abbrev pub alone : Plain → List (List ℕ) → Option Plain
alone event [] = Some event
alone event (word ∷ words) = None

-- what the words behind a keyword say
abbrev pub shaped_by : Keyword → List (List ℕ) → Option Plain
shaped_by key.Input words = input_of words
shaped_by key.Deliver words = option_map Deliver (only_num words)
shaped_by key.Flush words = alone Flush words
shaped_by key.Exchange words = alone Exchange words
shaped_by key.Ask words = option_map Ask (only_num words)
shaped_by key.Bytes words = bytes_of words
shaped_by key.Say words = option_map (λ s. Say s.a s.to s.statement) (stated_of words)
shaped_by key.Bundle words = bundle_of words
shaped_by key.Steal words = option_map (λ s. Steal s.a s.to s.statement) (stated_of words)
shaped_by key.Wedge words = alone Wedge words
shaped_by key.Decide words = option_map Decide (only_num words)
shaped_by key.Retire words = option_map Retire (only_num words)
shaped_by key.Open words = alone Open words

-- the event that the words of a line say in this form, where they are of its grammar
unfoldable pub shaped : Form → List (List ℕ) → Option Plain
shaped form [] = None
shaped form (word ∷ words) = keyword_in form word >>= λ keyword. shaped_by keyword words
