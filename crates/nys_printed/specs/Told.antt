-- What the text of a replay tells, in terms of a run of the source system: the steps of the run, lines of
-- replicas and notes. Of nodes, votes, packets and worlds nothing is said.
use Rattle.std.specs.Prelude.{◌≡◌, ℕ, ◌<◌, ◌≤◌, ◌⊎◌, ◌↔◌, ◌++◌, Bool, List, Contains, codes, count_by}
use Rattle.std.specs.List.{flat_map}
use Rattle.nys_told.specs.Noted.{IsDecidedAt, IsRetired}
use Rattle.nys_rules.specs.declared.notice.Note.{Note}
use Rattle.nys_source.specs.Rules.{Rules}
use Rattle.nys_source.specs.Runs.{host_at, takes_payload, IsRun}
use Rattle.nys_source.specs.declared.step.Step.{Step}
use Rattle.nys_source.specs.declared.step.Step.TheVariants.{Stop}
use Rattle.nys_printed.specs.Lines.{guard_line, notes_text, run_and_hosts}

-- what is told of a replica: its guard and its host, whether it is guarded still, how many entries it has
pub record Told : Type 0 where
  pub guard : ℕ
  pub host : ℕ
  pub live : Bool
  pub len : ℕ

-- its line: the state and the outputs are those of the host in the run after so many inputs and receives
abbrev pub told_line : {S : Type 0} → Rules S → List Step → Told → List ℕ
told_line rules run r =
    let held = host_at rules run r.host r.len in
    guard_line r.guard r.host r.live r.len (rules.view held.0) held.1

-- the text: the run and every host as it leaves them, a line for each replica, and a line for each note
unfoldable pub told_text : {S : Type 0} → Rules S → List Step → List Told → List Note → List ℕ
told_text rules run replicas notes =
    run_and_hosts rules run
    ++ (codes "guards\n" ++ (flat_map (told_line rules run) replicas
    ++ (codes "notes\n" ++ (notes_text notes ++ codes "end\n"))))

-- the line of a replica of h tells n entries
abbrev pub IsToldAt : List Told → (h n : ℕ) → Type 0
IsToldAt replicas h n = (r : Told) × Contains replicas r × (r.host ≡ h) × (r.len ≡ n)

-- n is the greatest length that is told of host h, by the line of a replica or a note `decided h at n`; it is
-- 0 where none is
pub record IsGreatest (lines : List Told) (notes : List Note) (h n : ℕ) : Type 0 where
  pub told : (len : ℕ) → IsToldAt lines h len → len ≤ n
  pub decided : (len : ℕ) → IsDecidedAt notes h len → len ≤ n
  pub reached : IsToldAt lines h n ⊎ (IsDecidedAt notes h n ⊎ (n ≡ 0))

-- the text tells of a run of the source system: each host takes as many inputs and receives in it as the
-- greatest length that is told of the host, and stops in it exactly where a note `retired` tells of it
pub record TellsRun {S : Type 0} (rules : Rules S) (text : List ℕ) : Type 0 where
  pub run : List Step
  pub replicas : List Told
  pub notes : List Note
  pub text_is : text ≡ told_text rules run replicas notes
  pub is_run : IsRun rules run
  pub taken : (h : ℕ) → h < rules.hosts → IsGreatest replicas notes h (count_by (takes_payload h) run)
  pub stops : (h : ℕ) → h < rules.hosts → Contains run (Stop h) ↔ IsRetired notes h
