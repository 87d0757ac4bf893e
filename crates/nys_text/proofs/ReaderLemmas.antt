-- A text read line by line.
use Rattle.std.proofs.Common.{◌≡◌, ℕ, ◌+◌, ◌-◌, ◌<◌, ◌≤◌, ◌==◌, Bool, true, false, cond, List, [], ◌∷◌, ◌++◌, Result, Ok, Err, length, drop, get_or, nat_lt, ◌⊎◌, inl, inr, refl, sym, ap, ◌∙◌, append_assoc, append-nil, length-append, arith}
use Rattle.std.proofs.lemmas.Bool.Decides.{nat_tests}
use Rattle.std.proofs.lemmas.List.{at_drop_more, at_drop_all}
use Rattle.nys_text.specs.Lines.{is_skipped, words_of}
use Rattle.nys_text.specs.Reading.{before, reading, then_more, told_from, with_line, with_said}
use Rattle.nys_text.specs.declared.reader.TextFault.{TextFault}
use Rattle.nys_text.specs.declared.reader.TextFault.TheVariants.{TooMany, NoMemory}

-- the items, and those that are read behind them
abbrev pub joined : {A F : Type 0} → List A → Result (List A) F → Result (List A) F
joined items (Ok more) = Ok (items ++ more)
joined items (Err fault) = Err fault

-- the items with what the lines behind them say
abbrev pub more_of : {A K : Type 0} → (List (List ℕ) → Result A K) → ℕ → List A → List (ℕ × List ℕ) → Result (List A) (TextFault K)
more_of says most items rest = joined items (reading says (most - length items) rest)

-- the same where a line before them may have been at fault
abbrev pub on_from : {A K : Type 0} → (List (List ℕ) → Result A K) → ℕ → Result (List A) (TextFault K) → List (ℕ × List ℕ) → Result (List A) (TextFault K)
on_from says most (Ok items) rest = more_of says most items rest
on_from says most (Err fault) rest = Err fault

pub joined_none : {A F : Type 0} (r : Result (List A) F) → joined [] r ≡ r
joined_none (Ok items) = refl
joined_none (Err fault) = refl

joined_more : {A F : Type 0} (items : List A) (item : A) (r : Result (List A) F) → joined items (before item r) ≡ joined (items ++ item ∷ []) r
joined_more items item (Ok more) = ap Ok (sym (append_assoc items (item ∷ []) more))
joined_more items item (Err fault) = refl

-- an item that is kept, or is one too many
at_item : {A K : Type 0} (says : List (List ℕ) → Result A K) (most number : ℕ) (items : List A) (item : A) (rest : List (ℕ × List ℕ)) (more : Bool) → nat_lt (length items) most ≡ more →
    joined items (then_more (most - length items) number (Ok item) (reading says (most - length items - 1) rest))
    ≡ on_from says most (cond more (Ok (items ++ item ∷ [])) (Err TooMany)) rest
at_item says most number items item rest true e =
    let some : ((most - length items) == 0) ≡ false = grind (arith, nat_tests) in
    let left : most - length (items ++ item ∷ []) ≡ most - length items - 1 = omega (arith, length-append items (item ∷ [])) in
    rw (some, left) (joined_more items item (reading says (most - length items - 1) rest))
at_item says most number items item rest false e =
    let none : ((most - length items) == 0) ≡ true = grind (arith, nat_tests) in
    rw none refl

-- what a line says, whatever it is
at_said : {A K : Type 0} (says : List (List ℕ) → Result A K) (most number : ℕ) (items : List A) (said : Result A K) (rest : List (ℕ × List ℕ)) →
    joined items (then_more (most - length items) number said (reading says (most - length items - 1) rest))
    ≡ on_from says most (with_said most items number said) rest
at_said says most number items (Ok item) rest = at_item says most number items item rest (nat_lt (length items) most) refl
at_said says most number items (Err kind) rest = refl

at_line : {A K : Type 0} (says : List (List ℕ) → Result A K) (most number : ℕ) (items : List A) (line : List ℕ) (texts : List (List ℕ)) (skipped : Bool) → is_skipped line ≡ skipped →
    more_of says most items (told_from number (line ∷ texts)) ≡ on_from says most (with_line says most items number line) (told_from (number + 1) texts)
at_line says most number items line texts true e = rw e refl
at_line says most number items line texts false e = rw e (at_said says most number items (says (words_of line)) (told_from (number + 1) texts))

-- one line more
pub more_of-line : {A K : Type 0} (says : List (List ℕ) → Result A K) (most number : ℕ) (items : List A) (line : List ℕ) (texts : List (List ℕ)) →
    more_of says most items (told_from number (line ∷ texts)) ≡ on_from says most (with_line says most items number line) (told_from (number + 1) texts)
more_of-line says most number items line texts = at_line says most number items line texts (is_skipped line) refl

-- a turn over lines: what one more line and those behind it are
at_turn : {A K : Type 0} (says : List (List ℕ) → Result A K) (most number : ℕ) (items : List A) (texts : List (List ℕ)) (line : List ℕ) → (number < length texts) × (line ≡ get_or texts number line) →
    more_of says most items (told_from (number + 1) (drop number texts)) ≡ on_from says most (with_line says most items (number + 1) line) (told_from (number + 1 + 1) (drop (number + 1) texts))
at_turn says most number items texts line here =
    at_drop_more (λ rest. more_of says most items (told_from (number + 1) rest)) texts number line here.0
    ∙ rw (← here.1) (more_of-line says most (number + 1) items line (drop (number + 1) texts))

-- a turn that goes on
pub turn_on : {A K : Type 0} (says : List (List ℕ) → Result A K) (most number : ℕ) (items after : List A) (texts : List (List ℕ)) (line : List ℕ) → (number < length texts) × (line ≡ get_or texts number line) → with_line says most items (number + 1) line ≡ Ok after →
    more_of says most after (told_from (number + 1 + 1) (drop (number + 1) texts)) ≡ more_of says most items (told_from (number + 1) (drop number texts))
turn_on says most number items after texts line here e = sym (at_turn says most number items texts line here ∙ rw e refl)

-- a turn that ends the reading, for want of memory or with the line's fault
pub turn_ends : {A K : Type 0} (says : List (List ℕ) → Result A K) (most number : ℕ) (items : List A) (fault : TextFault K) (texts : List (List ℕ)) (line : List ℕ) (whole : Result (List A) (TextFault K)) → (number < length texts) × (line ≡ get_or texts number line) →
    more_of says most items (told_from (number + 1) (drop number texts)) ≡ whole → (fault ≡ NoMemory) ⊎ (with_line says most items (number + 1) line ≡ Err fault) → (fault ≡ NoMemory) ⊎ (whole ≡ Err fault)
turn_ends says most number items fault texts line whole here all (inl memory) = inl memory
turn_ends says most number items fault texts line whole here all (inr e) = inr (sym all ∙ at_turn says most number items texts line here ∙ rw e refl)

-- behind the last line nothing is read
pub all_read : {A K : Type 0} (says : List (List ℕ) → Result A K) (most number : ℕ) (items : List A) (texts : List (List ℕ)) → length texts ≤ number →
    more_of says most items (told_from (number + 1) (drop number texts)) ≡ Ok items
all_read says most number items texts past =
    at_drop_all (λ rest. more_of says most items (told_from (number + 1) rest)) texts number past ∙ ap Ok (append-nil items)
