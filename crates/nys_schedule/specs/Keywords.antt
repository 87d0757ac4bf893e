-- The words that lines begin with.
use Rattle.std.specs.Prelude.{ℕ, List, Option, None, Some, codes, if◌then◌else◌}
use Rattle.std.specs.Str.{bytes_eq}
use Rattle.nys_schedule.specs.declared.form.Form.{Form}
use Rattle.nys_schedule.specs.declared.form.Form.TheVariants.{Replay, Ring}
use Rattle.nys_schedule.specs.declared.keyword.Keyword.{Keyword}
use Rattle.nys_schedule.specs.declared.keyword.Keyword.TheVariants.{Input, Deliver, Flush, Exchange, Ask, Bytes, Say, Bundle, Steal, Wedge, Decide, Retire, Open}
use Rattle.nys_schedule.specs.Choices.{first_of}

-- the words of the network
abbrev pub network_word : List ℕ → Option Keyword
network_word word =
    if bytes_eq word (codes "input") then Some Input
    else if bytes_eq word (codes "deliver") then Some Deliver
    else if bytes_eq word (codes "flush") then Some Flush
    else if bytes_eq word (codes "exchange") then Some Exchange
    else if bytes_eq word (codes "ask") then Some Ask
    else None

-- the words of liars and strangers
abbrev pub liars_word : List ℕ → Option Keyword
liars_word word =
    if bytes_eq word (codes "bytes") then Some Bytes
    else if bytes_eq word (codes "say") then Some Say
    else if bytes_eq word (codes "bundle") then Some Bundle
    else if bytes_eq word (codes "steal") then Some Steal
    else None

-- the words of the Olympus
abbrev pub olympus_word : List ℕ → Option Keyword
olympus_word word =
    if bytes_eq word (codes "wedge") then Some Wedge
    else if bytes_eq word (codes "decide") then Some Decide
    else if bytes_eq word (codes "retire") then Some Retire
    else if bytes_eq word (codes "open") then Some Open
    else None

-- the keyword that a word is
unfoldable pub keyword_of : List ℕ → Option Keyword
keyword_of word = first_of (network_word word) (first_of (liars_word word) (olympus_word word))

-- the keyword that a word is in this form: of what a ring begins with, `input` is the only one
abbrev pub keyword_in : Form → List ℕ → Option Keyword
keyword_in Replay word = keyword_of word
keyword_in Ring word = if bytes_eq word (codes "input") then Some Input else None
