-- members of lists and ascending lists, as the crate of list laws has them
pub use Rattle.list_laws.specs.Members.{Has, SameMembers, put, ascending, IsAscending, IsStrictOrder}
