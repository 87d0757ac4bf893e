-- Books that change in one part keep the world that changes so.
use Rattle.std.proofs.Common.{◌≡◌, ℕ, zero, suc, ◌+◌, ◌<◌, ◌≤◌, Bool, true, false, List, [], ◌∷◌, ◌++◌, length, map, take, get_or, Some, refl, ap, sym, subst, ◌∙◌, inl, inr, ◌⊎◌, arith}
use Rattle.std.specs.Prelude.{Contains, nat_lt, slice_index_or, slice_set, ◌↔◌}
use Rattle.std.proofs.lemmas.Bool.{le-ltb, lt-ltb}
use Rattle.std.proofs.lemmas.List.{append_assoc, length_push, map_push, take_more}
use Rattle.std.proofs.lemmas.List.Elements.{Contains-append_left, Contains-push, Contains-push_cases}
use Rattle.std.proofs.lemmas.List.Sums.{sum_by_push}
use Rattle.nys_agreement.specs.Alone.{step_of}
use Rattle.nys_bytes.specs.declared.content.Content.{Content}
use Rattle.nys_ledger.specs.Shelves.{BeginsToShare, made_by, Owns, Shares}
use Rattle.nys_ledger.specs.declared.shelf.Made.{Made}
use Rattle.nys_source.specs.Tables.{put}
use Rattle.nys_stmt.specs.declared.statement.Statement.{Statement}
use Rattle.nys_sending.specs.Tables.{IsTable}
use Rattle.nys_sending.proofs.TableLemmas.{table_put}
use Rattle.nys_node.proofs.RowLemmas.{table_read}
use Rattle.nys_rules.specs.declared.notice.Take.{Take}
use Rattle.nys_rules.specs.Forged.{Entry, HasMade, IsFirstClash, with_made}
use Rattle.nys_rules.specs.Olympus.{OlympusView}
use Rattle.nys_rules.specs.Packets.{Sent}
use Rattle.nys_rules.specs.View.{View}
use Rattle.nys_rules.specs.World.{pool_bytes, with_slot, World}
use Rattle.nys_wire.specs.Heads.{head_in}
use Rattle.nys_world.specs.Shows.{Keeps}
use Rattle.nys_world.proofs.ClashLemmas.{clash_longer}
use Rattle.nys_world.specs.declared.books.Books.{Books}

-- books keep nothing of parties
pub keeps_beside : (books : Books) (w : World) (nodes : ℕ → View) (olympus : OlympusView) → Keeps books w
    → Keeps books (record w { nodes = nodes; olympus = olympus })
keeps_beside books w nodes olympus k = record {
  events = k.events;
  ledger = k.ledger;
  shared = k.shared;
  pool = k.pool;
  heads = k.heads;
  bytes = k.bytes;
  few = k.few;
  light = k.light;
  delivered = k.delivered;
  rows = k.rows;
  injected = k.injected;
  notes = k.notes;
  longest = k.longest;
  run = k.run;
}

-- nor of what those were given
pub keeps_taken : (books : Books) (w : World) (takes : List Take) → Keeps books w → Keeps books (record w { takes = takes })
keeps_taken books w takes k = record {
  events = k.events;
  ledger = k.ledger;
  shared = k.shared;
  pool = k.pool;
  heads = k.heads;
  bytes = k.bytes;
  few = k.few;
  light = k.light;
  delivered = k.delivered;
  rows = k.rows;
  injected = k.injected;
  notes = k.notes;
  longest = k.longest;
  run = k.run;
}

-- one packet more that was never delivered
push_false : (delivered : List Bool) (k : ℕ) → slice_index_or (delivered ++ false ∷ []) k false ≡ slice_index_or delivered k false
push_false [] zero = refl
push_false [] (suc k) = refl
push_false (d ∷ delivered) zero = refl
push_false (d ∷ delivered) (suc k) = push_false delivered k

-- a packet joins the pool
pub keeps_packet : (old new : Books) (w : World) (p : Sent) (n : ℕ) → Keeps old w → n ≡ length p.frame → length old.pool.items < 200000
    → old.bytes + n ≤ 67108864 → new.pool.items ≡ old.pool.items ++ p ∷ [] → new.delivered.items ≡ old.delivered.items ++ false ∷ []
    → new.heads.items ≡ old.heads.items ++ head_in p.frame ∷ []
    → new.bytes ≡ old.bytes + n → new.events ≡ old.events → new.ledger ≡ old.ledger → new.injected ≡ old.injected
    → new.notes ≡ old.notes → new.longest ≡ old.longest → new.run ≡ old.run → Keeps new (record w { pool = w.pool ++ p ∷ [] })
keeps_packet old new w p n k size few light pool delivered heads bytes events ledger injected notes longest run =
    let more : pool_bytes (w.pool ++ p ∷ []) ≡ old.bytes + n =
    sum_by_push (λ (q : Sent). length q.frame) w.pool p ∙ ap (λ m. m + length p.frame) (sym k.bytes) ∙ ap (λ m. old.bytes + m) (sym size) in
    let count = length_push w.pool p in
    let before = ap length k.pool in
    record {
      events = events ∙ k.events;
      ledger = subst (λ (l : List (List Made)). (party : ℕ) (s : Statement) → Owns l party s ↔ HasMade w.ledger party s) (sym ledger) k.ledger;
      shared = subst (λ (l : List (List Made)). (party : ℕ) (s first : Statement) → Shares l party s first ↔ IsFirstClash w.ledger party s first) (sym ledger) k.shared;
      pool = pool ∙ ap (λ (ps : List Sent). ps ++ p ∷ []) k.pool;
      heads = heads ∙ ap (λ hs. hs ++ head_in p.frame ∷ []) k.heads ∙ sym (map_push (λ (q : Sent). head_in q.frame) w.pool p);
      bytes = bytes ∙ sym more;
      few = omega (arith, count, before, few);
      light = omega (arith, more, light);
      delivered = λ x. ap (λ (ds : List Bool). slice_index_or ds x false) delivered ∙ push_false old.delivered.items x ∙ k.delivered x;
      rows = ap length delivered ∙ length_push old.delivered.items false ∙ ap (λ m. m + 1) k.rows ∙ sym count;
      injected = ap (λ v. v.items) injected ∙ k.injected;
      notes = ap (λ v. v.items) notes ∙ k.notes;
      longest = subst (λ (t : List ℕ). IsTable t w.longest) (sym longest) k.longest;
      run = ap (λ v. v.items) run ∙ k.run;
    }

-- the ledger's line of a statement that a party made
abbrev entry_made : Made → Entry
entry_made made = record { party = made.party; statement = made.statement }

-- what a ledger's line says
abbrev made_entry : Entry → Made
made_entry entry = record { party = entry.party; statement = entry.statement }

-- a statement more is owned where it was made
owned_more : (ledger : List (List Made)) (entries : List Entry) (more : List (List Made)) (party : ℕ) (statement : Statement)
    → ((p : ℕ) (s : Statement) → Owns ledger p s ↔ HasMade entries p s)
    → ((p : ℕ) (s : Statement) → Owns more p s ↔ (Owns ledger p s ⊎ (made_by p s ≡ made_by party statement)))
    → (p : ℕ) (s : Statement) → Owns more p s ↔ HasMade (with_made party (statement ∷ []) entries) p s
owned_more ledger entries more party statement same grown p s = (
  (λ owns. elim ((grown p s).0 owns) [
    | inl old ↦ Contains-append_left entries (record { party = party; statement = statement } ∷ []) (record { party = p; statement = s }) ((same p s).0 old)
    | inr new ↦
        subst (λ (e : Entry). Contains (with_made party (statement ∷ []) entries) e) (ap entry_made (sym new))
        (Contains-push entries (record { party = party; statement = statement }))
  ]),
  (λ made. elim (Contains-push_cases entries (record { party = party; statement = statement }) (record { party = p; statement = s }) made) [
    | inl old ↦ (grown p s).1 (inl ((same p s).1 old))
    | inr new ↦ (grown p s).1 (inr (ap made_entry (sym new)))
  ]),
)

-- a statement more is the first that clashes, where there was none
shared_more : (ledger : List (List Made)) (entries : List Entry) (more : List (List Made)) (party : ℕ) (statement : Statement)
    → ((p : ℕ) (s : Statement) → Owns ledger p s ↔ HasMade entries p s)
    → ((p : ℕ) (s first : Statement) → Shares ledger p s first ↔ IsFirstClash entries p s first)
    → ((p : ℕ) (s first : Statement) → Shares more p s first ↔ (Shares ledger p s first ⊎ BeginsToShare ledger party statement p s first))
    → (p : ℕ) (s first : Statement) → Shares more p s first ↔ IsFirstClash (with_made party (statement ∷ []) entries) p s first
shared_more ledger entries more party statement same alike grown p s first =
    let longer = clash_longer entries party statement p s first in (
      (λ shares. elim ((grown p s first).0 shares) [
        | inl old ↦ longer.1 (inl ((alike p s first).0 old))
        | inr new ↦ longer.1 (inr (record {
          is = ap entry_made new.is;
          clashes = new.clashes;
          none_before = λ other made clash. new.none_before other ((same p other).1 made) clash;
        }))
      ]),
      (λ clash. elim (longer.0 clash) [
        | inl old ↦ (grown p s first).1 (inl ((alike p s first).1 old))
        | inr new ↦ (grown p s first).1 (inr (record {
          is = ap made_entry new.is;
          clashes = new.clashes;
          none_before = λ other owned clash. new.none_before other ((same p other).0 owned) clash;
        }))
      ]),
    )

-- a statement joins the ledger
pub keeps_made : (books : Books) (w : World) (ledger : List (List Made)) (party : ℕ) (statement : Statement) → Keeps books w
    → ((p : ℕ) (s : Statement) → Owns ledger p s ↔ (Owns books.ledger p s ⊎ (made_by p s ≡ made_by party statement)))
    → ((p : ℕ) (s first : Statement) → Shares ledger p s first ↔ (Shares books.ledger p s first ⊎ BeginsToShare books.ledger party statement p s first))
    → Keeps (record books { ledger = ledger }) (record w { ledger = with_made party (statement ∷ []) w.ledger })
keeps_made books w ledger party statement k grown begun = record {
  events = k.events;
  ledger = owned_more books.ledger w.ledger ledger party statement k.ledger grown;
  shared = shared_more books.ledger w.ledger ledger party statement k.ledger k.shared begun;
  pool = k.pool;
  heads = k.heads;
  bytes = k.bytes;
  few = k.few;
  light = k.light;
  delivered = k.delivered;
  rows = k.rows;
  injected = k.injected;
  notes = k.notes;
  longest = k.longest;
  run = k.run;
}

-- one statement more was made behind others
pub made_next : (party : ℕ) (made : List Statement) (i : ℕ) (statement : Statement) (ledger : List Entry) → i < length made
    → statement ≡ get_or made i statement
    → with_made party (statement ∷ []) (with_made party (take i made) ledger) ≡ with_made party (take (i + 1) made) ledger
made_next party made i statement ledger within at =
    let entry : Statement → Entry = λ s. record { party = party; statement = s } in
    append_assoc ledger (map entry (take i made)) (map entry (statement ∷ []))
    ∙ ap (λ more. ledger ++ more)
    (sym (map_push entry (take i made) statement)
    ∙ ap (map entry) (ap (λ s. take i made ++ s ∷ []) at ∙ sym (take_more made i statement within)))

-- what a log got is run already
pub keeps_run : (books : Books) (w : World) (h slot : ℕ) (content : Content) → Keeps books w → h < 32
    → slot < slice_index_or books.longest h 0 → Keeps books (with_slot h slot (Some content) w)
keeps_run books w h slot content k low there =
    let long : slice_index_or books.longest h 0 ≡ w.longest h = table_read books.longest w.longest h 0 k.longest low in
    let passed : nat_lt slot (w.longest h) ≡ true = lt-ltb slot (w.longest h) (omega (arith, there, long)) in
    rw passed k

-- a log passes all logs
pub keeps_slot : (old new : Books) (w : World) (h slot : ℕ) (content : Content) → Keeps old w → h < 32
    → slice_index_or old.longest h 0 ≤ slot → new.longest ≡ slice_set old.longest h (slot + 1)
    → new.run.items ≡ old.run.items ++ step_of h content ∷ [] → new.events ≡ old.events → new.ledger ≡ old.ledger → new.pool ≡ old.pool
    → new.heads ≡ old.heads → new.bytes ≡ old.bytes → new.delivered ≡ old.delivered → new.injected ≡ old.injected → new.notes ≡ old.notes
    → Keeps new (with_slot h slot (Some content) w)
keeps_slot old new w h slot content k low ends longest run events ledger pool heads bytes delivered injected notes =
    let long : slice_index_or old.longest h 0 ≡ w.longest h = table_read old.longest w.longest h 0 k.longest low in
    let passes : nat_lt slot (w.longest h) ≡ false = le-ltb slot (w.longest h) (omega (arith, ends, long)) in
    rw passes (record {
      events = events ∙ k.events;
      ledger = subst (λ (l : List (List Made)). (party : ℕ) (s : Statement) → Owns l party s ↔ HasMade w.ledger party s) (sym ledger) k.ledger;
      shared = subst (λ (l : List (List Made)). (party : ℕ) (s first : Statement) → Shares l party s first ↔ IsFirstClash w.ledger party s first) (sym ledger) k.shared;
      pool = ap (λ v. v.items) pool ∙ k.pool;
      heads = ap (λ v. v.items) heads ∙ k.heads;
      bytes = bytes ∙ k.bytes;
      few = k.few;
      light = k.light;
      delivered = λ x. ap (λ v. slice_index_or v.items x false) delivered ∙ k.delivered x;
      rows = ap (λ v. length v.items) delivered ∙ k.rows;
      injected = ap (λ v. v.items) injected ∙ k.injected;
      notes = ap (λ v. v.items) notes ∙ k.notes;
      longest = subst (λ (t : List ℕ). IsTable t (put w.longest h (slot + 1))) (sym longest)
          (table_put old.longest w.longest h (slot + 1) (slot + 1) k.longest low refl);
      run = run ∙ ap (λ steps. steps ++ step_of h content ∷ []) k.run;
    })
