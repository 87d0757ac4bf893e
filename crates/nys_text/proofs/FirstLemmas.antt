-- What a reading answers, said of the list of lines.
use Rattle.std.proofs.Common.{◌≡◌, ℕ, ◌-◌, ◌==◌, Bool, true, false, cond, List, [], ◌∷◌, Result, Ok, Err, IfOk, IfErr, ◌⊎◌, inl, inr, refl, ap, arith}
use Rattle.std.proofs.lemmas.Bool.Decides.{nat_tests}
use Rattle.nys_text.specs.Lines.{words_of}
use Rattle.nys_text.specs.Reading.{before, reading, then_more}
use Rattle.nys_text.specs.FirstFault.{AllSaid, IsFirstFault, Say}
use Rattle.nys_text.specs.declared.reader.TextFault.{TextFault}
use Rattle.nys_text.specs.declared.reader.TextFault.TheVariants.{Line, TooMany, NoMemory}

-- the answer of a reading: all items, or the first fault
abbrev pub IsReading : {A K : Type 0} → (List (List ℕ) → Result A K) → ℕ → List (ℕ × List ℕ) → Result (List A) (TextFault K) → Type 0
IsReading says most told (Ok items) = AllSaid says most told items
IsReading says most told (Err fault) = IsFirstFault says most told fault

say_more : {A K : Type 0} (says : List (List ℕ) → Result A K) (line : ℕ × List ℕ) (told : List (ℕ × List ℕ)) (item : A) (items : List A) → says (words_of line.1) ≡ Ok item → Say says told items → Say says (line ∷ told) (item ∷ items)
say_more says line told item items e rest = rw (e, rest) refl

fault_behind : {A K : Type 0} (says : List (List ℕ) → Result A K) (most : ℕ) (line : ℕ × List ℕ) (told : List (ℕ × List ℕ)) (item : A) (fault : TextFault K) → says (words_of line.1) ≡ Ok item → (most == 0) ≡ false → IsFirstFault says (most - 1) told fault → IsFirstFault says most (line ∷ told) fault
fault_behind says most line told item (Line number kind) e some first = record {
  items = item ∷ first.items;
  front = line ∷ first.front;
  line = first.line;
  behind = first.behind;
  there = ap (λ ls. line ∷ ls) first.there;
  said = say_more says line first.front item first.items e first.said;
  few = let few = first.few in grind (arith, nat_tests);
  bad = first.bad;
}
fault_behind says most line told item TooMany e some first = record {
  items = item ∷ first.items;
  front = line ∷ first.front;
  behind = first.behind;
  there = ap (λ ls. line ∷ ls) first.there;
  said = say_more says line first.front item first.items e first.said;
  more = let more = first.more in grind (arith, nat_tests);
}
fault_behind says most line told item NoMemory e some first = tt

behind_item : {A K : Type 0} (says : List (List ℕ) → Result A K) (most : ℕ) (line : ℕ × List ℕ) (told : List (ℕ × List ℕ)) (item : A) (r : Result (List A) (TextFault K)) → says (words_of line.1) ≡ Ok item → (most == 0) ≡ false → IsReading says (most - 1) told r → IsReading says most (line ∷ told) (before item r)
behind_item says most line told item (Ok items) e some rest = record {
  said = say_more says line told item items e rest.said;
  few = let few = rest.few in grind (arith, nat_tests);
}
behind_item says most line told item (Err fault) e some rest = fault_behind says most line told item fault e some rest

at_item : {A K : Type 0} (says : List (List ℕ) → Result A K) (most : ℕ) (line : ℕ × List ℕ) (told : List (ℕ × List ℕ)) (item : A) (r : Result (List A) (TextFault K)) (none : Bool) → (most == 0) ≡ none → says (words_of line.1) ≡ Ok item → IsReading says (most - 1) told r → IsReading says most (line ∷ told) (cond none (Err TooMany) (before item r))
at_item says most line told item r true none e rest = record {
  items = item ∷ [];
  front = line ∷ [];
  behind = told;
  there = refl;
  said = say_more says line [] item [] e refl;
  more = grind (arith, nat_tests);
}
at_item says most line told item r false some e rest = behind_item says most line told item r e some rest

at_line : {A K : Type 0} (says : List (List ℕ) → Result A K) (most : ℕ) (line : ℕ × List ℕ) (told : List (ℕ × List ℕ)) (said : Result A K) (r : Result (List A) (TextFault K)) → says (words_of line.1) ≡ said → IsReading says (most - 1) told r → IsReading says most (line ∷ told) (then_more most line.0 said r)
at_line says most line told (Ok item) r e rest = at_item says most line told item r (most == 0) refl e rest
at_line says most line told (Err kind) r e rest = record {
  items = [];
  front = [];
  line = line.1;
  behind = told;
  there = refl;
  said = refl;
  few = omega arith;
  bad = e;
}

-- a reading answers all items, or the first fault
pub reading_is : {A K : Type 0} (says : List (List ℕ) → Result A K) (most : ℕ) (told : List (ℕ × List ℕ)) → IsReading says most told (reading says most told)
reading_is says most [] = record { said = refl; few = omega arith }
reading_is says most (line ∷ told) = at_line says most line told (says (words_of line.1)) (reading says (most - 1) told) refl (reading_is says (most - 1) told)

-- the same of the answer that a call gives
pub reading_ok : {A K : Type 0} (says : List (List ℕ) → Result A K) (most : ℕ) (told : List (ℕ × List ℕ)) (items : List A) → reading says most told ≡ Ok items → AllSaid says most told items
reading_ok says most told items e = rw e at (reading_is says most told)

pub reading_err : {A K : Type 0} (says : List (List ℕ) → Result A K) (most : ℕ) (told : List (ℕ × List ℕ)) (fault : TextFault K) → (fault ≡ NoMemory) ⊎ (reading says most told ≡ Err fault) → IsFirstFault says most told fault
reading_err says most told fault (inl memory) = rw memory tt
reading_err says most told fault (inr e) = rw e at (reading_is says most told)

-- the same for whatever the answer is, where `shown` gives its items
pub said_of : {A K T : Type 0} (says : List (List ℕ) → Result A K) (most : ℕ) (told : List (ℕ × List ℕ)) (shown : T → List A) (r : Result T (TextFault K)) → IfOk r (λ t. reading says most told ≡ Ok (shown t)) → IfOk r (λ t. AllSaid says most told (shown t))
said_of says most told shown (Ok t) e = reading_ok says most told (shown t) e
said_of says most told shown (Err fault) e = tt

pub first_of_all : {A K T : Type 0} (says : List (List ℕ) → Result A K) (most : ℕ) (told : List (ℕ × List ℕ)) (r : Result T (TextFault K)) → IfErr r (λ fault. (fault ≡ NoMemory) ⊎ (reading says most told ≡ Err fault)) → IfErr r (λ fault. IsFirstFault says most told fault)
first_of_all says most told (Ok t) e = tt
first_of_all says most told (Err fault) e = reading_err says most told fault e
