-- Statements as words: the kind, the epoch, and what the kind has. The ranges are those of the bytes.
use Rattle.std.specs.Prelude.{ℕ, List, [], ◌∷◌, Option, None, Some, codes, length, nat_lt, if◌then◌else◌}
use Rattle.std.specs.Option.{option_map}
use Rattle.std.specs.Str.{bytes_eq}
use Rattle.nys_text.specs.Numbers.{payload_of}
use Rattle.nys_bytes.specs.declared.content.Content.{Content}
use Rattle.nys_bytes.specs.declared.content.Content.TheVariants.{External, Message}
use Rattle.nys_stmt.specs.declared.limits.TheConstants.{MAX_EPOCH, MAX_HOST, MAX_LENGTH, MAX_LENGTHS, MAX_NUMBER, MAX_SLOT}
use Rattle.nys_stmt.specs.declared.statement.Body.{Body}
use Rattle.nys_stmt.specs.declared.statement.Body.TheVariants as body
use Rattle.nys_stmt.specs.declared.statement.FilledKind.{FilledKind}
use Rattle.nys_stmt.specs.declared.statement.FilledKind.TheVariants.{Offer, Order, Deliver, Report, Inherit}
use Rattle.nys_stmt.specs.declared.statement.Statement.{Statement}
use Rattle.nys_schedule.specs.declared.kind.Kind.{Kind}
use Rattle.nys_schedule.specs.declared.kind.Kind.TheVariants.{Filled as With_content, Attest, Ask, Wedge, Frozen, Open}
use Rattle.nys_schedule.specs.Choices.{◌>>=◌, each_of, first_of, upto}

-- the kind with a content that a word names
abbrev pub filled_kind : List ℕ → Option FilledKind
filled_kind word =
    if bytes_eq word (codes "offer") then Some Offer
    else if bytes_eq word (codes "order") then Some Order
    else if bytes_eq word (codes "deliver") then Some Deliver
    else if bytes_eq word (codes "report") then Some Report
    else if bytes_eq word (codes "inherit") then Some Inherit
    else None

-- the kind without a content that a word names
abbrev pub other_kind : List ℕ → Option Kind
other_kind word =
    if bytes_eq word (codes "attest") then Some Attest
    else if bytes_eq word (codes "ask") then Some Ask
    else if bytes_eq word (codes "wedge") then Some Wedge
    else if bytes_eq word (codes "frozen") then Some Frozen
    else if bytes_eq word (codes "open") then Some Open
    else None

-- the kind that a word names
unfoldable pub kind_of : List ℕ → Option Kind
kind_of word = first_of (option_map With_content (filled_kind word)) (other_kind word)

-- `P K PAYLOAD`
abbrev pub message_of : List (List ℕ) → Option Content
message_of (p ∷ k ∷ numbers) = do
  sender ← upto MAX_HOST p
  number ← upto MAX_NUMBER k
  payload ← payload_of numbers
  Some (Message sender number payload)
message_of _ = None

-- `in PAYLOAD` or `msg P K PAYLOAD`
unfoldable pub content_of : List (List ℕ) → Option Content
content_of [] = None
content_of (word ∷ words) =
    if bytes_eq word (codes "in") then option_map External (payload_of words)
    else if bytes_eq word (codes "msg") then message_of words
    else None

-- `H S CONTENT`, of which this is said
unfoldable pub filled_of : FilledKind → List (List ℕ) → Option Body
filled_of kind (h ∷ s ∷ words) = do
  host ← upto MAX_HOST h
  slot ← upto MAX_SLOT s
  content ← content_of words
  Some (body.Filled kind host slot content)
filled_of kind _ = None

-- `P H K PAYLOAD`
unfoldable pub attested_of : List (List ℕ) → Option Body
attested_of (p ∷ h ∷ k ∷ numbers) = do
  sender ← upto MAX_HOST p
  host ← upto MAX_HOST h
  number ← upto MAX_NUMBER k
  payload ← payload_of numbers
  Some (body.Attest sender host number payload)
attested_of _ = None

-- `H S`, in which the slot is at most this
abbrev pub slot_of : ℕ → List (List ℕ) → Option (ℕ × ℕ)
slot_of most (h ∷ s ∷ []) = do
  host ← upto MAX_HOST h
  slot ← upto most s
  Some (host, slot)
slot_of most _ = None

-- no words
abbrev pub wedge_of : List (List ℕ) → Option Body
wedge_of [] = Some body.Wedge
wedge_of (word ∷ words) = None

-- the length of a host's log, or `x` where the host is retired
abbrev pub length_of : List ℕ → Option (Option ℕ)
length_of word = if bytes_eq word (codes "x") then Some None else option_map Some (upto MAX_LENGTH word)

-- `L1 L2 ..`: one or more, at most one a host
unfoldable pub lengths_of : List (List ℕ) → Option (List (Option ℕ))
lengths_of [] = None
lengths_of (word ∷ words) =
    if nat_lt MAX_LENGTHS (length (word ∷ words)) then None else each_of length_of (word ∷ words)

-- what the words behind the kind and the epoch say
abbrev pub body_of : Kind → List (List ℕ) → Option Body
body_of (With_content kind) words = filled_of kind words
body_of Attest words = attested_of words
body_of Ask words = option_map (λ x. body.Ask x.0 x.1) (slot_of MAX_SLOT words)
body_of Wedge words = wedge_of words
body_of Frozen words = option_map (λ x. body.Frozen x.0 x.1) (slot_of MAX_LENGTH words)
body_of Open words = option_map body.Open (lengths_of words)

-- the STATEMENT that words are
unfoldable pub statement_of : List (List ℕ) → Option Statement
statement_of [] = None
statement_of (word ∷ []) = None
statement_of (word ∷ e ∷ words) = do
  kind ← kind_of word
  epoch ← upto MAX_EPOCH e
  body ← body_of kind words
  Some (record { epoch = epoch; body = body })
