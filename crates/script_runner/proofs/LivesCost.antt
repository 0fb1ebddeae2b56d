-- How many calls of the station any list of calls of the program in one folder makes together.
use Rattle.std.proofs.Common.{ℕ, ◌+◌, ◌-◌, ◌≤◌, List, [], ◌∷◌, length, subst, inl, inr, arith}
use Rattle.std.specs.Prelude.{Option}
use Rattle.shelf_model.specs.Folder.{Folder, Image, bytes_in, IsImage}
use Rattle.shelf_model.specs.World.{World, now}
use Rattle.sound_image.specs.Jobs.{Job}
use Rattle.command_words.specs.Readings.{Reading}
use Rattle.script_reader.specs.declared.plan.Plan.{Plan}
use Rattle.script_runner.specs.JobOf.{job_of}
use Rattle.script_runner.specs.Outcome.{Accepts, MakesFewCalls, texts_calls}
use Rattle.script_runner.specs.Lives.{Life}
use Rattle.script_runner.specs.LivesCost.{CostsLife, CostLives, left_by, calls_by, all_rests}
use Rattle.script_runner.specs.Stops.{paid_in, PayAtLeast, IsPaidRun, StopsIn}
use Rattle.script_runner.proofs.Lives.{no_list, alike}
use Rattle.script_runner.proofs.RunPaying.{still_stops}
use Rattle.script_runner.proofs.Sources.{one_accepted}

-- what the call leaves pays for what it made beyond what paid for going on
left_pays : (job : Job) (lines besides rest paid : ℕ) (folder : Folder) (life : Life) → PayAtLeast job paid folder
    → CostsLife job lines besides rest folder life
    → PayAtLeast job (paid + ((life.at - life.old.clock) - (besides + rest))) life.left
left_pays job lines besides rest paid folder life shows costs image is_image =
    let may : IsPaidRun job lines 0 rest folder = costs.may in
    let same = alike (now life.old).folder folder costs.found in
    let is : IsPaidRun job lines paid rest (now life.old).folder = record {
      sound = λ first is_first. may.sound first (same first is_first);
      work = may.work;
      few_lines = may.few_lines;
      short = may.short;
      shows = λ first is_first. shows first (same first is_first);
      pays = λ first is_first. may.pays first (same first is_first);
    } in
    let at = costs.stops.pays paid rest is life.at costs.since costs.until image (costs.leaves image is_image) in
    let no_fewer = at.no_fewer in
    let few = at.few in
    omega (arith, no_fewer, few)

-- all calls together
pub lives_cost : (job : Job) (lines besides paid : ℕ) (folder : Folder) (lives : List Life) (rests : List ℕ)
    → PayAtLeast job paid folder → CostLives job lines besides folder lives rests → (image : Image)
    → IsImage (left_by folder lives) image → calls_by lives + paid ≤ paid_in job (bytes_in image) + all_rests besides rests
lives_cost job lines besides paid folder [] [] shows costs image is_image =
    let paid_for = shows image is_image in omega (arith, paid_for)
lives_cost job lines besides paid folder [] (rest ∷ rests) shows costs image is_image = absurd costs
lives_cost job lines besides paid folder (life ∷ lives) [] shows costs image is_image = absurd costs
lives_cost job lines besides paid folder (life ∷ lives) (rest ∷ rests) shows (first, others) image is_image =
    let more : ℕ = paid + ((life.at - life.old.clock) - (besides + rest)) in
    let behind = lives_cost job lines besides more life.left lives rests (left_pays job lines besides rest paid folder life shows first)
    others image is_image in
    omega (arith, behind)

-- a call that runs the job costs so, however it ends
pub accepted_costs : (asked : Option Reading) (plan : Plan) (old new : World) (accepts : Accepts old asked plan) → MakesFewCalls asked old new
    → StopsIn (job_of accepts.source plan) (length plan.lines) (texts_calls + 2) old new
accepted_costs asked plan old new accepts (inl (few, still)) =
    still_stops (job_of accepts.source plan) (length plan.lines) (texts_calls + 2) old new still (omega (arith, few))
accepted_costs asked plan old new accepts (inr (inl (source, asks, inl (few, still)))) =
    still_stops (job_of accepts.source plan) (length plan.lines) (texts_calls + 2) old new still (omega (arith, few))
accepted_costs asked plan old new accepts (inr (inl (source, asks, inr (other, plans, calls, stops)))) =
    let same = one_accepted old asked other plan (record { source = source; asks = asks; plans = plans }) accepts in
    subst (λ v. v) (λ i. StopsIn (job_of (same.0 i) (same.1 i)) (length (same.1 i).lines) (texts_calls + 2) old new) stops
accepted_costs asked plan old new accepts (inr (inr ((path, is), few))) = absurd (no_list old asked plan path is accepts)
