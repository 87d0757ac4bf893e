-- What clap makes of words of which none begins with a dash: the first goes to the command, the others to its values.
use Rattle.std.proofs.Common.{◌≡◌, ◌⊎◌, inl, inr, subst, map, ◌∙◌, ◌<◌, ◌≤◌, ◌+◌, ◌&&◌, ◌++◌, ℕ, Bool, true, false, List, [], ◌∷◌, Some, None, refl, sym, ap, arith, length, codes, fold, append_assoc, append-nil, nat_le, slice_get, option_map}
use Rattle.std.proofs.Math.Dec.{leb-zero}
use Rattle.std.proofs.lemmas.Bool.{le-leb}
use Rattle.std.specs.List.{list_all, position_from}
use Rattle.clap.specs.Lexer.{usize_max}
use Rattle.clap.specs.Walk.{Held, Row, Rule, Walk, idle, positional, walk, walk_from, walked, nothing_held, settled_rows, first_of, all_of, finished, rows_of}
use Rattle.clap.specs.Simple.{App, HasMatchesOf, Shape, built, filled, matches_of, with_index}
use Rattle.clap.specs.Takes.{default_passes, is_valid, level_passes, settle_passes, takes, turn_passes, value_passes, walk_passes}
use Rattle.clap.specs.Matches.{first_value, found_of, matched_of, raw_values}
use Rattle.clap.specs.declared.parser.matches.ArgMatches.{ArgMatches}
use Rattle.clap.proofs.TakesLemmas.{leaf_takes}
use Rattle.clap.proofs.WalkLemmas.{first_value-rows, raw_values-rows}
use Rattle.nys_words.specs.CommandLine.{line, values_after, values_rule}
use Rattle.nys_words.specs.Words.{is_dashed}

-- the line with what building fills in
abbrev pub shape : Shape
shape = (built line).top

-- the rows once the first word is the command
abbrev pub rows_with : List ℕ → List Row
rows_with w = settled_rows shape.rules (Some (codes "command", w ∷ [])) []

-- where the walk stands after the first word
abbrev pub after_first : List ℕ → Walk
after_first w = record {
  held = record { rows = []; pending = Some (codes "command", w ∷ []); skip = 0 };
  waiting = idle;
  position = 2;
  is_trailing = false;
  stopped = None;
}

-- where it stands after the first word and some values
abbrev pub after_values : List ℕ → List (List ℕ) → Walk
after_values w vs = record {
  held = record { rows = rows_with w; pending = Some (codes "values", vs); skip = 0 };
  waiting = positional;
  position = 2;
  is_trailing = false;
  stopped = None;
}

-- the first word waits for the command
first_step : (w : List ℕ) → is_dashed w ≡ false → walked shape.rules [] (walk_from nothing_held) w ≡ after_first w
unfolding walked
first_step [] p = refl
first_step (c ∷ cs) p = rw (p, p) refl

-- the second is the first of the values
second_step : (w v : List ℕ) → is_dashed v ≡ false → walked shape.rules [] (after_first w) v ≡ after_values w (v ∷ [])
unfolding walked
second_step w [] p = refl
second_step w (c ∷ cs) p = rw (p, p) refl

-- each later one is one more of them
later_step : (w : List ℕ) (vs : List (List ℕ)) (v : List ℕ) → is_dashed v ≡ false
    → walked shape.rules [] (after_values w vs) v ≡ after_values w (vs ++ v ∷ [])
unfolding walked
later_step w vs [] p = refl
later_step w vs (c ∷ cs) p = rw (p, p) refl

-- of words with no dashed one, the first and those after it have none
next_plain : (i : ℕ) (w : List ℕ) (ws : List (List ℕ)) → position_from is_dashed i (w ∷ ws) ≡ None
    → (is_dashed w ≡ false) × (position_from is_dashed (i + 1) ws ≡ None)
next_plain i w ws none = go (is_dashed w) refl
  where
    go : (b : Bool) → is_dashed w ≡ b → (is_dashed w ≡ false) × (position_from is_dashed (i + 1) ws ≡ None)
    go true dashed = let bad : Some i ≡ None = rw dashed at none in cc
    go false plain = (plain, rw plain at none)

-- the walk over the values
walk_values : (w : List ℕ) (vs more : List (List ℕ)) (i : ℕ) → position_from is_dashed i more ≡ None
    → fold (walked shape.rules []) (after_values w vs) more ≡ after_values w (vs ++ more)
walk_values w vs [] i none = ap (after_values w) (sym (append-nil vs))
walk_values w vs (v ∷ more) i none =
    let plain = next_plain i v more none in
    ap (λ at. fold (walked shape.rules []) at more) (later_step w vs v plain.0)
    ∙ walk_values w (vs ++ v ∷ []) more (i + 1) plain.1 ∙ ap (after_values w) (append_assoc vs (v ∷ []) more)

-- where the walk over all the words ends
abbrev ended_at : List ℕ → List (List ℕ) → Walk
ended_at w [] = after_first w
ended_at w (v ∷ vs) = after_values w (v ∷ vs)

-- where the walk over plain words ends
walk_ends : (w : List ℕ) (vs : List (List ℕ)) → position_from is_dashed 0 (w ∷ vs) ≡ None
    → walk shape.rules [] nothing_held (w ∷ vs) ≡ ended_at w vs
walk_ends w [] none = first_step w (next_plain 0 w [] none).0
walk_ends w (v ∷ vs) none =
    let one = next_plain 0 w (v ∷ vs) none in
    let two = next_plain (0 + 1) v vs one.1 in
    ap (λ at. fold (walked shape.rules []) (walked shape.rules [] at v) vs) (first_step w one.0)
    ∙ ap (λ at. fold (walked shape.rules []) at vs) (second_step w v two.0)
    ∙ walk_values w (v ∷ []) vs (0 + 1 + 1) two.1

-- each word passes on its way
first_turn : (w : List ℕ) → is_dashed w ≡ false → turn_passes shape [] (walk_from nothing_held) w ≡ true
first_turn [] p = refl
first_turn (c ∷ cs) p = rw (p, p) refl

-- the second word passes
second_turn : (w v : List ℕ) → is_dashed v ≡ false → turn_passes shape [] (after_first w) v ≡ true
second_turn w [] p = refl
second_turn w (c ∷ cs) p = rw (p, p) refl

-- each later word passes
later_turn : (w : List ℕ) (vs : List (List ℕ)) (v : List ℕ) → is_dashed v ≡ false
    → turn_passes shape [] (after_values w vs) v ≡ true
later_turn w vs [] p = refl
later_turn w vs (c ∷ cs) p = rw (p, p) refl

-- a word that passes, before words that pass
both_pass : (at next : Walk) (w : List ℕ) (ws : List (List ℕ)) → turn_passes shape [] at w ≡ true
    → walked shape.rules [] at w ≡ next → walk_passes shape [] next ws ≡ true
    → walk_passes shape [] at (w ∷ ws) ≡ true
unfolding walk_passes
both_pass at next w ws turn step rest =
    ap (λ b. b && walk_passes shape [] (walked shape.rules [] at w) ws) turn
    ∙ ap (λ on. walk_passes shape [] on ws) step ∙ rest

-- no word passes at any place
none_pass : (at : Walk) → walk_passes shape [] at [] ≡ true
unfolding walk_passes
none_pass at = refl

-- the values pass, each after those before it
values_pass_on : (w : List ℕ) (vs more : List (List ℕ)) (i : ℕ) → position_from is_dashed i more ≡ None
    → walk_passes shape [] (after_values w vs) more ≡ true
values_pass_on w vs [] i none = none_pass (after_values w vs)
values_pass_on w vs (v ∷ more) i none =
    let plain = next_plain i v more none in
    both_pass (after_values w vs) (after_values w (vs ++ v ∷ [])) v more (later_turn w vs v plain.0)
    (later_step w vs v plain.0) (values_pass_on w (vs ++ v ∷ []) more (i + 1) plain.1)

-- all the words pass
words_pass : (w : List ℕ) (vs : List (List ℕ)) → position_from is_dashed 0 (w ∷ vs) ≡ None
    → walk_passes shape [] (walk_from nothing_held) (w ∷ vs) ≡ true
words_pass w [] none =
    let one = next_plain 0 w [] none in
    both_pass (walk_from nothing_held) (after_first w) w [] (first_turn w one.0) (first_step w one.0) (none_pass (after_first w))
words_pass w (v ∷ vs) none =
    let one = next_plain 0 w (v ∷ vs) none in
    let two = next_plain (0 + 1) v vs one.1 in
    both_pass (walk_from nothing_held) (after_first w) w (v ∷ vs) (first_turn w one.0) (first_step w one.0)
    (both_pass (after_first w) (after_values w (v ∷ [])) v vs (second_turn w v two.0) (second_step w v two.0)
    (values_pass_on w (v ∷ []) vs (0 + 1 + 1) two.1))

-- what is pending at the end may be used
all_pass : (a : Rule) (vs : List (List ℕ)) → ((v : List ℕ) → value_passes a v ≡ true) → list_all (value_passes a) vs ≡ true
all_pass a [] each = refl
all_pass a (v ∷ vs) each = rw (each v) (all_pass a vs each)

-- the tests that are left once the walk has ended
abbrev ends_well : Held → Bool
ends_well h = settle_passes shape.rules shape.args_override_self h
    && (list_all default_passes shape.rules && is_valid shape (finished shape.rules h) false)

-- the walk ends in a state that passes
ends : (w : List ℕ) (vs : List (List ℕ)) → length vs < usize_max → ends_well (ended_at w vs).held ≡ true
ends w [] few = refl
ends w (v ∷ vs) few =
    let counted : nat_le (length (v ∷ vs)) usize_max ≡ true = le-leb (length (v ∷ vs)) usize_max (omega arith) in
    let texts : list_all (value_passes (with_index 2 (filled values_rule))) vs ≡ true = all_pass (with_index 2 (filled values_rule)) vs (λ t. refl) in
    rw (leb-zero (length (v ∷ vs)), counted, texts) refl

-- so the whole line passes
level : (w : List ℕ) (vs : List (List ℕ)) → position_from is_dashed 0 (w ∷ vs) ≡ None → length vs < usize_max
    → level_passes shape [] nothing_held (w ∷ vs) false ≡ true
level w vs none few =
    ap (λ b. b && ends_well (walk shape.rules [] nothing_held (w ∷ vs)).held) (words_pass w vs none)
    ∙ ap (λ (at : Walk). ends_well at.held) (walk_ends w vs none) ∙ ends w vs few

-- clap takes the words
pub takes_words : (w : List ℕ) (vs : List (List ℕ)) → position_from is_dashed 0 (w ∷ vs) ≡ None → length vs < usize_max
    → takes line (w ∷ vs) ≡ true
takes_words w vs none few = leaf_takes (built line) nothing_held (w ∷ vs) refl (level w vs none few)

-- the matches are those of the state in which the walk ends
rows_are : (w : List ℕ) (vs : List (List ℕ)) → position_from is_dashed 0 (w ∷ vs) ≡ None
    → matches_of line (w ∷ vs) ≡ finished shape.rules (ended_at w vs).held
rows_are w vs none = ap (λ (at : Walk). finished shape.rules at.held) (walk_ends w vs none)

-- the command is the first word
first_row : (ws : List (List ℕ)) → position_from is_dashed 0 ws ≡ None → first_of (codes "command") (matches_of line ws) ≡ slice_get ws 0
first_row [] none = refl
first_row (w ∷ vs) none = ap (first_of (codes "command")) (rows_are w vs none) ∙ go vs
  where
    go : (vs : List (List ℕ)) → first_of (codes "command") (finished shape.rules (ended_at w vs).held) ≡ Some w
    go [] = refl
    go (v ∷ vs) = refl

-- the values are the words after it
values_row : (ws : List (List ℕ)) → position_from is_dashed 0 ws ≡ None → all_of (codes "values") (matches_of line ws) ≡ values_after ws
values_row [] none = refl
values_row (w ∷ vs) none = ap (all_of (codes "values")) (rows_are w vs none) ∙ go vs
  where
    go : (vs : List (List ℕ)) → all_of (codes "values") (finished shape.rules (ended_at w vs).held) ≡ values_after (w ∷ vs)
    go [] = refl
    go (v ∷ vs) = refl

-- the words themselves, seen as texts
same_words : (ws : List (List ℕ)) → map (λ w. w) ws ≡ ws
same_words [] = refl
same_words (w ∷ ws) = ap (λ rest. w ∷ rest) (same_words ws)

-- what clap found is what its walk gives
rows_matched : (a : App) (ws : List (List ℕ)) (m : ArgMatches) → a ≡ line → HasMatchesOf a (map (λ w. w) ws) m
    → rows_of (found_of m) ≡ matches_of line ws
rows_matched a ws m is has =
    let on_line : HasMatchesOf line ws m = subst (λ x. HasMatchesOf x ws m) is (subst (λ xs. HasMatchesOf a xs m) (same_words ws) has) in
    (on_line refl).0

-- the command that clap found is the first word
pub command_matched : (a : App) (ws : List (List ℕ)) (m : ArgMatches) → a ≡ line → HasMatchesOf a (map (λ w. w) ws) m
    → position_from is_dashed 0 ws ≡ None → first_value (found_of m) (codes "command") ≡ slice_get ws 0
command_matched a ws m is has none =
    first_value-rows (found_of m) (codes "command") ∙ ap (first_of (codes "command")) (rows_matched a ws m is has) ∙ first_row ws none

-- the values that it found are the words after it
pub values_matched : (a : App) (ws : List (List ℕ)) (m : ArgMatches) → a ≡ line → HasMatchesOf a (map (λ w. w) ws) m
    → position_from is_dashed 0 ws ≡ None → option_map raw_values (matched_of (found_of m) (codes "values")) ≡ values_after ws
values_matched a ws m is has none =
    raw_values-rows (found_of m) (codes "values") ∙ ap (all_of (codes "values")) (rows_matched a ws m is has) ∙ values_row ws none

-- a refusal for another cause than memory is for a missing word
pub none_or_full : (a : App) (ws : List (List ℕ)) (F : Type 0) → a ≡ line → position_from is_dashed 0 ws ≡ None → length ws ≤ usize_max
    → (takes a (map (λ w. w) ws) ≡ true → F) → F ⊎ (ws ≡ [])
none_or_full a [] F is none few full = inr refl
none_or_full a (w ∷ vs) F is none few full =
    let on_words : takes a (w ∷ vs) ≡ true = ap (λ x. takes x (w ∷ vs)) is ∙ takes_words w vs none (omega arith) in
    inl (full (ap (takes a) (same_words (w ∷ vs)) ∙ on_words))
