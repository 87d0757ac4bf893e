-- The number of each message on its link.
use Rattle.std.specs.Prelude.{◌≡◌, ℕ, ◌<◌, ◌≤◌, ◌==◌, ◌&&◌, Bool, List, length, take, count_by, slice_index, slice_index_or}

-- the message is one of the link
abbrev pub is_on : ℕ × ℕ → ℕ × ℕ → Bool
is_on link message = (message.0 == link.0) && (message.1 == link.1)

-- the number of a message on its link: how many messages of that link were sent before it
unfoldable pub number_on_link : List (ℕ × ℕ) → ℕ → ℕ × ℕ → ℕ
number_on_link messages k link = count_by (is_on link) (take k messages)

-- the link of a message
abbrev pub link_of : List (ℕ × ℕ) → ℕ → ℕ × ℕ
link_of messages k = slice_index_or messages k (0, 0)

-- the numbers of the first messages, so many
pub record AreNumbers (numbers : List ℕ) (messages : List (ℕ × ℕ)) (count : ℕ) : Type 0 where
  pub long : length numbers ≡ count
  pub each : (k : ℕ) → k < count → slice_index numbers k ≡ number_on_link messages k (link_of messages k)

-- the numbers of as many messages as there are numbers
pub record AreSomeNumbers (numbers : List ℕ) (messages : List (ℕ × ℕ)) : Type 0 where
  pub some : AreNumbers numbers messages (length numbers)
  pub within : length numbers ≤ length messages
