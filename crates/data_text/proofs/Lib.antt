mod Rows
pub mod PrintedLemmas
mod PrintedRows
pub mod NumberLemmas
pub mod NamedLemmas
pub mod PlaceLemmas
pub mod ParserLemmas
pub mod WordLemmas
pub mod FaultLemmas
pub mod ReaderLemmas
pub mod StepLemmas
pub mod RemainsLemmas
pub mod ShelfLemmas
pub mod FrontLemmas
pub mod TakenLemmas
pub mod RoseTakenLemmas
pub mod ContentTakenLemmas
pub mod ApartLemmas
pub mod WrittenLaws
pub mod PrintedWordsLemmas
pub mod ReadBackLemmas
pub mod TraceLemmas
pub mod ReadingTraceLemmas
pub mod FaultTraceLemmas
pub mod CutLemmas
pub mod FirstFaultLaws
