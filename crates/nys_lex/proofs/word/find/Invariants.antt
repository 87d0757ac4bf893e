use Rattle.std.proofs.Common.{◌≡◌, map, drop}
use Rattle.nys_lex.specs.Lexeme.{is_among}
use Rattle.nys_lex.proofs.word.find.Given as goal

-- the text is none of the spellings that were passed
abbrev pub invariant-loop-spelling : goal.invariant-loop-spelling
invariant-loop-spelling l = is_among (map (λ s. s.now) (drop l.spelling-index l.spellings)) l.text ≡ is_among (map (λ s. s.now) l.spellings) l.text
