-- The text of statements, a case for each kind.
use Rattle.std.specs.Prelude.{ℕ, List, [], ◌++◌, Option, None, Some, codes, decimal}
use Rattle.std.specs.List.{flat_map}
use Rattle.nys_text.specs.Printed.{spaced}
use Rattle.nys_bytes.specs.declared.content.Content.{Content}
use Rattle.nys_bytes.specs.declared.content.Content.TheVariants.{External, Message}
use Rattle.nys_stmt.specs.declared.statement.Body.{Body}
use Rattle.nys_stmt.specs.declared.statement.Body.TheVariants.{Filled, Attest, Ask, Wedge, Frozen, Open}
use Rattle.nys_stmt.specs.declared.statement.FilledKind.{FilledKind}
use Rattle.nys_stmt.specs.declared.statement.FilledKind.TheVariants.{Offer, Order, Deliver, Report, Inherit}
use Rattle.nys_stmt.specs.declared.statement.Statement.{Statement}

-- a number as a word, with a space before it
abbrev pub number_word : ℕ → List ℕ
number_word n = codes " " ++ decimal n

-- the words of a content
unfoldable pub content_words : Content → List ℕ
content_words (External payload) = codes " in" ++ spaced payload
content_words (Message p k payload) = codes " msg" ++ (number_word p ++ (number_word k ++ spaced payload))

-- the word of a member of Open: its length, or `x` for a retired host
abbrev pub length_word : Option ℕ → List ℕ
length_word (Some n) = number_word n
length_word None = codes " x"

-- a host and a slot as words
abbrev pub slot_words : ℕ → ℕ → List ℕ
slot_words h slot = number_word h ++ number_word slot

-- the word of what is said of a content
abbrev pub filled_word : FilledKind → List ℕ
filled_word Offer = codes "offer"
filled_word Order = codes "order"
filled_word Deliver = codes "deliver"
filled_word Report = codes "report"
filled_word Inherit = codes "inherit"

-- the word of a kind
abbrev pub kind_word : Body → List ℕ
kind_word (Filled kind h slot content) = filled_word kind
kind_word (Attest p h k payload) = codes "attest"
kind_word (Ask h slot) = codes "ask"
kind_word Wedge = codes "wedge"
kind_word (Frozen h slot) = codes "frozen"
kind_word (Open lengths) = codes "open"

-- the words behind the kind and the epoch
unfoldable pub body_words : Body → List ℕ
body_words (Filled kind h slot content) = slot_words h slot ++ content_words content
body_words (Attest p h k payload) = number_word p ++ (number_word h ++ (number_word k ++ spaced payload))
body_words (Ask h slot) = slot_words h slot
body_words Wedge = []
body_words (Frozen h slot) = slot_words h slot
body_words (Open lengths) = flat_map length_word lengths

-- the text of a statement: the word of its kind, its epoch, and what its kind has
unfoldable pub statement_words : Statement → List ℕ
statement_words statement = kind_word statement.body ++ (number_word statement.epoch ++ body_words statement.body)
