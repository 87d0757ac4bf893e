mod FramingLemmas
mod PairLemmas
