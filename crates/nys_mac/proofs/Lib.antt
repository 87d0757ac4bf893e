mod PairLemmas
