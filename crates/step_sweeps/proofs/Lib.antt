pub mod AnswersRuns
pub mod AnswersFaults
pub mod AnswersValues
mod AnswerSums
mod AnswerQuiet
mod AnswerRuns
mod AnswerComparing
mod AnswerEvaluating
mod AnswerFronts
mod AnswerImplying
mod ImpliedWork
mod Running
mod Unfilled
mod StopsAnew
mod Faults
mod Confirmed
mod StepStands
mod UnderWay
mod Stops
mod Costs
mod Rebuilt
mod ArcsPoints
mod ArcsStart
mod ArcsAgain
mod ArcsBegun
mod WaysAnew
mod JoinsAnew
pub mod AtOnce
mod MadeAnew
mod SweptSums
mod SweptSteps
mod ArcsReduced
mod EndedKept
mod RoomKept
mod JoinKept
mod SweptReduction
mod ReductionRuns
mod ReductionOn
mod ReductionRebuilt
mod ArcsRun
mod CopyRuns
mod CopyRebuilt
mod CopyOn
mod ArcsMade
