-- the laws of members, as the crate of list laws has them
pub use Rattle.std.proofs.lemmas.Bool.{cases_Bool as either_bit}
pub use Rattle.list_laws.proofs.MemberLaws.{has_map, map_has, has_filter, filter_has, filter_none, put_has, put_keeps, has_put, put_ascends, ascending_ascends, ascending_keeps, has_ascending, ascending_has, same_ascending}
