pub mod PutLaws
pub mod PutLemmas
pub mod PutListLemmas
pub mod PutRowLemmas
pub mod PutWorldLemmas
