-- What a schedule hands to its hosts, by its events and the notes of them: without what nodes keep.
use Rattle.std.specs.Prelude.{ℕ, ◌==◌, Bool, false, ◌&&◌, not, if◌then◌else◌, ℤ, List, [], ◌∷◌}
use Rattle.std.specs.List.{enumerate_from, flat_map, list_any}
use Rattle.nys_rules.specs.Events.{Plain}
use Rattle.nys_rules.specs.Events.Plain.{Input}
use Rattle.nys_rules.specs.declared.notice.Note.{Note}
use Rattle.nys_rules.specs.declared.notice.NoteKind.{NoteKind}
use Rattle.nys_rules.specs.declared.notice.NoteKind.TheVariants.{QueueFull}

-- the note tells that event number n found the queue of host h full
abbrev pub tells_full : (n h : ℕ) → Note → Bool
tells_full n h told = told.event == n && is_full told.kind
  where
    is_full : NoteKind → Bool
    is_full (QueueFull g) = g == h
    is_full kind = false

-- what event number n hands to host h: an input its payload, unless a note tells that h's queue was full
abbrev pub handed_by : List Note → (h n : ℕ) → Plain → List (List ℤ)
handed_by notes h n (Input g payload) =
    if g == h && not (list_any (tells_full n h) notes) then payload ∷ [] else []
handed_by notes h n event = []

-- the payloads that events hand to host h, in order; events are numbered from 0
abbrev pub handed_to : List Note → (h : ℕ) → List Plain → List (List ℤ)
handed_to notes h events = flat_map (λ x. handed_by notes h x.0 x.1) (enumerate_from 0 events)
