-- the words that were read are those of the request, which is within its limits
use Rattle.std.proofs.lemmas.Result.{IfOk-weaker}
use Rattle.nys_words.proofs.RequestLemmas.{plain_tells}
use Rattle.nys_words.proofs.reading.read.Goals as goal

pub returns-clause-words : goal.returns-clause-words
returns-clause-words c =
    IfOk-weaker c.read_plain.result _ _ (λ request is. (plain_tells c.args.words.now request is).spoken) c.read_plain.ensures.request

pub returns-clause-within : goal.returns-clause-within
returns-clause-within c =
    IfOk-weaker c.read_plain.result _ _ (λ request is. (plain_tells c.args.words.now request is).within) c.read_plain.ensures.request
