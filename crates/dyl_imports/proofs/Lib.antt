mod ByHost
mod ByLoader
mod ByNumber
mod Counted
mod EachOnce
mod FewMembers
mod Names
mod Noted
mod Steps
pub use Rattle.dyl_scope.proofs as of_dyl_scope
