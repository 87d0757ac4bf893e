-- Which line the reading of a text refuses, said of the list of its lines.
use Rattle.std.specs.Prelude.{◌≡◌, ◌≤◌, ◌+◌, ℕ, List, ◌∷◌, ◌++◌, Result, Ok, Err, length, map}
use Rattle.nys_text.specs.Lines.{words_of}
use Rattle.nys_text.specs.declared.reader.TextFault.{TextFault}
use Rattle.nys_text.specs.declared.reader.TextFault.TheVariants.{Line, TooMany, NoMemory}

-- each of the lines says an item, and these are the items in order
abbrev pub Say : {A K : Type 0} → (List (List ℕ) → Result A K) → List (ℕ × List ℕ) → List A → Type 0
Say says told items = map (λ line. says (words_of line.1)) told ≡ map Ok items

-- the line with this number is at fault, and those before it are not
pub record IsFirstBad {A K : Type 0} (says : List (List ℕ) → Result A K) (most : ℕ) (told : List (ℕ × List ℕ)) (number : ℕ) (kind : K) : Type 0 where
  -- what the lines before it say
  pub items : List A
  -- the lines before it
  pub front : List (ℕ × List ℕ)
  -- its bytes
  pub line : List ℕ
  -- the lines behind it
  pub behind : List (ℕ × List ℕ)
  pub there : told ≡ front ++ (number, line) ∷ behind
  pub said : Say says front items
  pub few : length items ≤ most
  pub bad : says (words_of line) ≡ Err kind

-- the first lines say one item more than the most
pub record HasTooMany {A K : Type 0} (says : List (List ℕ) → Result A K) (most : ℕ) (told : List (ℕ × List ℕ)) : Type 0 where
  -- what they say
  pub items : List A
  -- those lines
  pub front : List (ℕ × List ℕ)
  -- the lines behind them
  pub behind : List (ℕ × List ℕ)
  pub there : told ≡ front ++ behind
  pub said : Say says front items
  pub more : length items ≡ most + 1

-- the fault is that of the first line that is at fault or says one item too many
abbrev pub IsFirstFault : {A K : Type 0} → (List (List ℕ) → Result A K) → ℕ → List (ℕ × List ℕ) → TextFault K → Type 0
IsFirstFault says most told (Line number kind) = IsFirstBad says most told number kind
IsFirstFault says most told TooMany = HasTooMany says most told
IsFirstFault says most told NoMemory = Unit {0}

-- all lines say the items, at most the most
pub record AllSaid {A K : Type 0} (says : List (List ℕ) → Result A K) (most : ℕ) (told : List (ℕ × List ℕ)) (items : List A) : Type 0 where
  pub said : Say says told items
  pub few : length items ≤ most
