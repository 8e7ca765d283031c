pub mod DepthLemmas
pub mod DocketDepth
pub mod NameLemmas
pub mod ReadLemmas
pub mod TokenLemmas
