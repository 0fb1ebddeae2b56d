pub mod MemberLaws
pub mod SameMembers
pub mod SortedLaws
pub mod AnswerLaws
