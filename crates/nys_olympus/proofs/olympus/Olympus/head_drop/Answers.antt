use Rattle.nys_olympus.proofs.olympus.Olympus.head_drop.Goals as goal

-- what is said of a content has the tests of its kind
pub returns-in-Filled : goal.returns-in-Filled
returns-in-Filled g c = λ o view. rw c.in-Filled.is (c.filled_drop.ensures o view)
