pub mod MarkLaws
pub mod BitLaws
pub mod FillLaws
pub mod SpreadLaws
pub mod SetLaws
pub mod FewLaws
pub mod AlikeLaws
