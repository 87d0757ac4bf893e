-- What drawn events lead to is answered.
use Rattle.std.proofs.Common.{◌≡◌, ℕ, ◌+◌, List, [], ◌++◌, Ok, Err, ap, sym, ◌∙◌, arith}
use Rattle.std.proofs.lemmas.List.{append_assoc}
use Rattle.nys_answer.specs.declared.answer.Answer.{Answer}
use Rattle.nys_answer.specs.declared.status.Status.TheVariants.{Done}
use Rattle.nys_native.specs.declared.total.Total.{Total}
use Rattle.nys_played.specs.Refusals.{IsEndAnswer}
use Rattle.nys_rules.specs.World.{fresh_world, Setting, World}
use Rattle.nys_rules.specs.declared.notice.End.{End}
use Rattle.nys_rules.specs.declared.notice.End.TheVariants.{Clash, Forged, NoMemory, NoPacket, PoolFull}
use Rattle.nys_words.specs.declared.request.Workload.{Workload}
use Rattle.nys_workload.specs.Drawn.{first_dice}
use Rattle.nys_workload.specs.Inputs.{inputs_in}
use Rattle.nys_workload.specs.declared.dice.Dice.{Dice}
use Rattle.nys_workload_command.proofs.CourseLemmas.{inputs_counted}
use Rattle.nys_workload_command.specs.Answered.{dice_at, IsSettingOf, IsWorkloadAnswer, WasDrawn}
use Rattle.nys_workload_command.specs.Summary.{summary}
use Rattle.nys_world.specs.Outcomes.{Happened}

-- three parts that were put one behind another
pub put_in_turn : (empty one two all first second rest : List ℕ) → empty ≡ [] → one ≡ empty ++ first → two ≡ one ++ second → all ≡ two ++ rest
    → all ≡ first ++ (second ++ rest)
put_in_turn empty one two all first second rest none a b last =
    last
    ∙ ap (λ t. t ++ rest) (b ∙ ap (λ t. t ++ second) (a ∙ ap (λ t. t ++ first) none))
    ∙ append_assoc first second rest

-- nothing more
nothing : (n : ℕ) → 0 + n ≡ n
nothing n = omega arith

-- the world after the last event is told, with the inputs that the generator counted
pub world_answered : (drawing : Workload) (setting : Setting Total) (w : World) (dice : Dice) (answer : Answer) → IsSettingOf drawing.hosts setting
    → WasDrawn setting drawing.seed drawing.hosts drawing.events (Ok w) → dice ≡ dice_at (first_dice drawing.seed) drawing.events
    → answer ≡ record { status = Done; text = summary drawing.seed drawing.hosts drawing.events dice.inputs setting w }
    → IsWorkloadAnswer drawing answer
world_answered drawing setting w dice answer is was rolled told =
    let counted = inputs_counted setting drawing.hosts 0 (first_dice drawing.seed) (fresh_world setting) w was.events was.happen in
    let inputs : dice.inputs ≡ inputs_in was.events =
    ap (λ (d : Dice). d.inputs) rolled
    ∙ ap (λ n. (dice_at (first_dice drawing.seed) n).inputs) (sym was.many)
    ∙ counted
    ∙ nothing (inputs_in was.events) in
    record {
      setting = setting;
      setting_is = is;
      given = record {
        outcome = Ok w;
        drawn = was;
        given =
            told
            ∙ ap (λ n. record { status = Done; text = summary drawing.seed drawing.hosts drawing.events n setting w }) inputs;
      };
    }

-- an end that events may have has its line
pub end_answered : {A : Type 0} (Has : A → World → Type 0) (drawing : Workload) (setting : Setting Total) (end : End) (answer : Answer)
    → IsSettingOf drawing.hosts setting → Happened Has (WasDrawn setting drawing.seed drawing.hosts drawing.events) (Err end)
    → IsEndAnswer end answer → IsWorkloadAnswer drawing answer
end_answered Has drawing setting (NoPacket event packet have) answer is was told =
    record { setting = setting; setting_is = is; given = record { outcome = Err (NoPacket event packet have); drawn = was; given = told } }
end_answered Has drawing setting (Forged event maker taker statement) answer is was told =
    record { setting = setting; setting_is = is; given = record { outcome = Err (Forged event maker taker statement); drawn = was; given = told } }
end_answered Has drawing setting (Clash event maker taker made taken) answer is was told =
    record { setting = setting; setting_is = is; given = record { outcome = Err (Clash event maker taker made taken); drawn = was; given = told } }
end_answered Has drawing setting (PoolFull event packets bytes) answer is was told =
    record { setting = setting; setting_is = is; given = record { outcome = Err (PoolFull event packets bytes); drawn = was; given = told } }
end_answered Has drawing setting NoMemory answer is was told = absurd told
